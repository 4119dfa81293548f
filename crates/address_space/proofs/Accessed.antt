-- A space whose bytes are read or written.
use Rattle.std.proofs.Common.{◌≡◌, ◌∙◌, sym, refl, ℕ, ◌+◌, ◌-◌, ◌/◌, ◌<◌, ◌≤◌, Bool, false, cond, Option, Some, None, List, length, slice_index, arith, ◌⊎◌, inl, inr}
use Rattle.std.specs.Prelude.{IsSome, is_some}
use Rattle.paging_core.specs.Walk.{reached}
use Rattle.paging_core.specs.declared.page_table.Rights.{Rights}
use Rattle.address_space.specs.Runs.{rights_in}
use Rattle.address_space.specs.Access.{rights_deny, IsAccessGranted, AreBytesAt}
use Rattle.address_space.specs.Changing.{AreBytesStored}
use Rattle.address_space.specs.Space.{Tables, page_map_of}
use Rattle.address_space.proofs.Cutting.{side_of, else_out}

-- if an access is granted, the page is mapped
pub granted_mapped : (rights : ℕ → Option Rights) (write user : Bool) (at count any : ℕ) →
    IsAccessGranted rights write user at count → at ≤ any → any < at + count → IsSome (rights (any / 4096))
granted_mapped rights write user at count any g h k = go (rights (any / 4096)) (g any h k) where
  go : (o : Option Rights) → rights_deny write user o ≡ false → IsSome o
  go None is = absurd (cc)
  go (Some r) is = refl

byte_there : (o : Option Rights) (b : Option ℕ) → IsSome o → cond (is_some o) b None ≡ b
byte_there None b h = absurd (cc)
byte_there (Some r) b h = refl

pub bytes_in_map : (t : Tables) (at count : ℕ) (bytes : List ℕ) → length bytes ≡ count →
    AreBytesAt (reached t.words t.root) at bytes → ((any : ℕ) → at ≤ any → any < at + count →
    IsSome (rights_in t.runs (any / 4096))) →
    AreBytesAt (page_map_of t).byte at bytes
bytes_in_map t at count bytes size read mapped = record {
  each = λ k less. byte_there (rights_in t.runs ((at + k) / 4096)) (reached t.words t.root (at + k))
      (mapped (at + k) (omega arith) (omega (arith, less, size))) ∙ read.each k less;
}

pub stored_none : (t : Tables) (at : ℕ) (bytes : List ℕ) → length bytes ≡ 0 → AreBytesStored t t at bytes
stored_none t at bytes empty = record {
  map = record {
    rights = λ page. refl;
    bytes = λ address. sym (else_out at (at + length bytes) address (Some (slice_index bytes (address - at)))
        ((page_map_of t).byte address) (out address (side_of at (at + length bytes) address)));
  };
  free = refl;
  root = refl;
  runs = refl;
  size = refl;
  met = λ level number le. refl;
  words = record { kept = λ f i less apart. refl };
} where
  out : (address : ℕ) → ((at ≤ address) × (address < at + length bytes)) ⊎ ((address < at) ⊎ (at + length
      bytes ≤ address)) → (address < at) ⊎ (at + length bytes ≤ address)
  out address (inl h) = absurd (omega (arith, h.0, h.1, empty))
  out address (inr h) = h
