-- Accesses to bytes: when one is denied, and what is read.
use Rattle.std.specs.Prelude.{◌≡◌, ℕ, ◌+◌, ◌-◌, ◌*◌, ◌/◌, ◌^◌, ◌<◌, ◌≤◌, ◌%◌, ◌&&◌, ◌||◌, nat_le, nat_lt, not, Bool, true, false, IsTrue, is_some, if◌then◌else◌, List, length, slice_index, Option, Some, None, Result, Ok, Err}
use Rattle.paging_core.specs.Address.{is_canonical}
use Rattle.paging_core.specs.Memory.{word_at, byte_of}
use Rattle.paging_core.specs.Tree.{IsTree}
use Rattle.paging_core.specs.Walk.{Place, reach, large_of, walk_of, reached}
use Rattle.paging_core.specs.declared.page_table.Rights.{Rights}
use Rattle.x86_flags.specs.PageFaultErrorCode.{page_fault_bits}
use Rattle.address_space.specs.PageMap.{PageMap}
use Rattle.address_space.specs.declared.space_fault.SpaceFault.{SpaceFault}
use Rattle.address_space.specs.declared.space_fault.SpaceFault.TheVariants.{BadRange, Denied, OutOfMemory}

-- bytes from an address on: at least one, and all in one canonical half
pub record IsGoodSpan (at length : ℕ) : Type 0 where
  pub some : 0 < length
  pub canonical : IsTrue (is_canonical at)
  pub one_half : (at + length - 1) / 2 ^ 47 ≡ at / 2 ^ 47

-- whether the rights of a page deny an access: it is not mapped, a write is not granted, or one by the user is not
abbrev pub rights_deny : Bool → Bool → Option Rights → Bool
rights_deny write user None = true
rights_deny write user (Some rights) = (write && not rights.write) || (user && not rights.user)

-- the page fault's code (AMD64 volume 2, section 8.4.2): 1 if the page is mapped, 2 for a write, 4 for the user
abbrev pub denial_code : Bool → Bool → Option Rights → ℕ
denial_code write user rights = (if is_some rights then 1 else 0) + (if write then 2 else 0) + (if user then 4 else 0)

-- the access is granted at each of `length` bytes from an address on
abbrev pub IsAccessGranted : (ℕ → Option Rights) → Bool → Bool → ℕ → ℕ → Type 0
IsAccessGranted rights write user at length = (any : ℕ) → at ≤ any → any < at + length → rights_deny write user (rights (any / 4096)) ≡ false

-- the access is denied at a byte of them, and granted at each before it
pub record IsAccessDenied (rights : ℕ → Option Rights) (write user : Bool) (at length byte code : ℕ) : Type 0 where
  pub from : at ≤ byte
  pub within : byte < at + length
  pub denied : rights_deny write user (rights (byte / 4096)) ≡ true
  pub first : (any : ℕ) → at ≤ any → any < byte → rights_deny write user (rights (any / 4096)) ≡ false
  pub code_is : code ≡ denial_code write user (rights (byte / 4096))

-- the bytes are those of the map from an address on
pub record AreBytesAt (byte : ℕ → Option ℕ) (at : ℕ) (bytes : List ℕ) : Type 0 where
  pub each : (k : ℕ) → k < length bytes → byte (at + k) ≡ Some (slice_index bytes k)

-- the bytes of words, eight to a word, the lowest first
abbrev pub byte_at : List ℕ → ℕ → ℕ
byte_at words place = byte_of (slice_index words (place / 8)) (place % 8)

-- these bytes were put into words from an offset on, and every other byte is as it was
pub record AreBytesPut (old new : List ℕ) (offset count : ℕ) (bytes : List ℕ) : Type 0 where
  pub size : length new ≡ length old
  pub each :
      (place : ℕ) → place < 8 * length old →
      byte_at new place ≡ (if nat_le offset place && nat_lt place (offset + count) then slice_index bytes (place - offset) else byte_at old place)

-- `count` of these bytes were written from an address on, and every other byte is as it was
pub record AreWritten (old new : ℕ → Option ℕ) (at count : ℕ) (bytes : List ℕ) : Type 0 where
  pub each :
      (address : ℕ) → IsTrue (is_canonical address) →
      new address ≡ (if nat_le at address && nat_lt address (at + count) then Some (slice_index bytes (address - at)) else old address)

-- the byte at an address lies in a word of a frame: the walk arrives at the frame
pub record LiesIn (words : List ℕ) (root address frame index : ℕ) : Type 0 where
  pub place : Place
  pub found : walk_of words root (address / 4096) ≡ Some place
  pub in_frame : place.frame ≡ frame
  pub at_index : address % 4096 / 8 ≡ index

-- a word of memory is as it was if none of `count` bytes from an address on lies in it
pub record AreOtherWordsKept (old new : List ℕ) (root at count : ℕ) : Type 0 where
  pub kept :
      (frame index : ℕ) → index < 512 → ((address : ℕ) → at ≤ address → address < at + count → LiesIn old root address frame index → ⊥) →
      word_at new frame index ≡ word_at old frame index

-- Bytes were written from an address on, and nothing else is changed: the walk meets every table and every page as before,
-- and every word in which none of the bytes lies is as it was.
pub record IsWritten (old new : List ℕ) (root at : ℕ) (written : List ℕ) : Type 0 where
  pub size : length new ≡ length old
  pub tree : (free : List Bool) → IsTree old root free → IsTree new root free
  pub walks : (level number : ℕ) → level ≤ 4 → reach new root level number ≡ reach old root level number
  pub larges : (slot : ℕ) → large_of new root slot ≡ large_of old root slot
  pub bytes : AreWritten (reached old root) (reached new root) at (length written) written
  pub words : AreOtherWordsKept old new root at (length written)

-- more of the wanted bytes were read than before
pub record IsReadOn (byte : ℕ → Option ℕ) (at wanted : ℕ) (before bytes : List ℕ) : Type 0 where
  pub read : AreBytesAt byte at bytes
  pub more : length before < length bytes
  pub few : length bytes ≤ wanted

-- the first byte of a page that is not below an address
pub record IsFirstByte (at number byte : ℕ) : Type 0 where
  pub page : byte / 4096 ≡ number
  pub from : at ≤ byte
  pub first : (any : ℕ) → at ≤ any → any < byte → any / 4096 < number
  pub within : (any : ℕ) → number ≤ any / 4096 → at ≤ any → byte ≤ any

-- When an access to `length` bytes gets each answer. An access to no bytes is always served.
abbrev pub IsAccessAnswer : {A : Type 0} → PageMap → Bool → Bool → ℕ → ℕ → Result A SpaceFault → Type 0
IsAccessAnswer {A} map write user at length (Ok done) = 0 < length → IsGoodSpan at length × IsAccessGranted map.rights write user at length
IsAccessAnswer {A} map write user at length (Err BadRange) = (0 < length) × (IsGoodSpan at length → ⊥)
IsAccessAnswer {A} map write user at length (Err (Denied byte code)) = IsGoodSpan at length × IsAccessDenied map.rights write user at length byte (page_fault_bits code)
IsAccessAnswer {A} map write user at length (Err OutOfMemory) = IsGoodSpan at length × IsAccessGranted map.rights write user at length
IsAccessAnswer {A} map write user at length (Err fault) = ⊥
