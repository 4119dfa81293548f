-- A space of pages as a plain map: each mapped page, by its number, has rights and 4096 bytes.
use Rattle.std.specs.Prelude.{◌≡◌, ℕ, zero, suc, ◌+◌, ◌-◌, ◌*◌, ◌/◌, ◌%◌, ◌^◌, ◌<◌, ◌≤◌, ◌&&◌, nat_le, nat_lt, IsSome, is_some, if◌then◌else◌, List, length, slice_index, Option, Some, None}
use Rattle.paging_core.specs.Address.{IsCanonicalRange}
use Rattle.paging_core.specs.declared.page_table.Rights.{Rights}
use Rattle.address_space.specs.Runs.{is_among}

-- the rights of a page, None if it is not mapped, and the byte at an address, None if its page is not mapped
pub record PageMap : Type 0 where
  pub rights : ℕ → Option Rights
  pub byte : ℕ → Option ℕ

-- the same map
pub record IsMap (left right : PageMap) : Type 0 where
  pub rights : (page : ℕ) → left.rights page ≡ right.rights page
  pub bytes : (address : ℕ) → left.byte address ≡ right.byte address

-- ---- the steps

-- `pages` pages from the page `first` on get the rights, and bytes that are 0
abbrev pub mapped : ℕ → ℕ → Rights → PageMap → PageMap
mapped first pages rights map = record {
  rights = λ page. (if is_among first pages page then Some rights else map.rights page);
  byte = λ address. (if is_among first pages (address / 4096) then Some 0 else map.byte address);
}

-- the pages leave
abbrev pub unmapped : ℕ → ℕ → PageMap → PageMap
unmapped first pages map = record {
  rights = λ page. (if is_among first pages page then None else map.rights page);
  byte = λ address. (if is_among first pages (address / 4096) then None else map.byte address);
}

-- the pages get other rights, and every byte stays
abbrev pub protected : ℕ → ℕ → Rights → PageMap → PageMap
protected first pages rights map = record {
  rights = λ page. (if is_among first pages page then Some rights else map.rights page);
  byte = map.byte;
}

-- the pages from `to` on get the rights and the bytes of as many pages from `from` on
abbrev pub duplicated : ℕ → ℕ → ℕ → PageMap → PageMap
duplicated from pages to map = record {
  rights = λ page. (if is_among to pages page then map.rights (page - to + from) else map.rights page);
  byte = λ address. (if is_among to pages (address / 4096) then map.byte (address - 4096 * to + 4096 * from) else map.byte address);
}

-- the bytes from an address on are these
abbrev pub stored : ℕ → List ℕ → PageMap → PageMap
stored at bytes map = record {
  rights = map.rights;
  byte = λ address. (if nat_le at address && nat_lt address (at + length bytes) then Some (slice_index bytes (address - at)) else map.byte address);
}

-- ---- the causes

-- a range is good: it begins at a page, has pages, and lies in one canonical half
pub record IsGoodRange (start pages : ℕ) : Type 0 where
  pub at_page : start % 4096 ≡ 0
  pub canonical : IsCanonicalRange (start / 4096) pages

-- no page of a range is mapped
abbrev pub AreNoneMapped : PageMap → ℕ → ℕ → Type 0
AreNoneMapped map first pages = (page : ℕ) → first ≤ page → page < first + pages → map.rights page ≡ None

-- each page of a range is mapped
abbrev pub AreAllMapped : PageMap → ℕ → ℕ → Type 0
AreAllMapped map first pages = (page : ℕ) → first ≤ page → page < first + pages → IsSome (map.rights page)

-- a page is the lowest of a range that is not mapped
pub record IsHole (map : PageMap) (first pages page : ℕ) : Type 0 where
  pub from : first ≤ page
  pub within : page < first + pages
  pub gone : map.rights page ≡ None
  pub lowest : (other : ℕ) → first ≤ other → other < page → IsSome (map.rights other)

-- how many pages of a range are mapped
unfoldable pub mapped_count : (ℕ → Option Rights) → ℕ → ℕ → ℕ
mapped_count rights first zero = 0
mapped_count rights first (suc pages) = (if is_some (rights first) then 1 else 0) + mapped_count rights (first + 1) pages

-- ---- places

-- `pages` pages from a page lie between two others, and none of them is mapped
pub record IsPageFit (rights : ℕ → Option Rights) (base end pages page : ℕ) : Type 0 where
  pub from : base ≤ page
  pub within : page + pages ≤ end
  pub clear : (any : ℕ) → page ≤ any → any < page + pages → rights any ≡ None

-- and from no lower page
pub record IsPagePlace (rights : ℕ → Option Rights) (base end pages page : ℕ) : Type 0 where
  pub fit : IsPageFit rights base end pages page
  pub least : (other : ℕ) → other < page → IsPageFit rights base end pages other → ⊥

-- from no page at all
abbrev pub HasNoPagePlace : (ℕ → Option Rights) → ℕ → ℕ → ℕ → Type 0
HasNoPagePlace rights base end pages = (page : ℕ) → IsPageFit rights base end pages page → ⊥

-- a window is good: its ends lie at pages, the first below the second, and it lies in one canonical half
pub record IsGoodWindow (low high : ℕ) : Type 0 where
  pub range : IsGoodRange low ((high - low) / 4096)
  pub at_page : high % 4096 ≡ 0
  pub below : low < high

-- the first page of a good range
pub record BeginsRange (start pages page : ℕ) : Type 0 where
  pub good : IsGoodRange start pages
  pub first : page ≡ start / 4096
  pub within : page + pages ≤ 2 ^ 52

-- the first page of a good window
pub record BeginsWindow (low high page : ℕ) : Type 0 where
  pub good : IsGoodWindow low high
  pub first : page ≡ low / 4096
  pub within : high / 4096 ≤ 2 ^ 52
