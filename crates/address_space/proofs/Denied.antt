-- Pages at which an access was granted, and the first at which it is denied.
use Rattle.std.proofs.Common.{◌≡◌, ◌∙◌, ap, sym, ℕ, ◌+◌, ◌-◌, ◌/◌, ◌<◌, ◌≤◌, Bool, true, false, Option, Some, arith, ◌⊎◌, inl, inr}
use Rattle.std.proofs.lemmas.Bool.{cases_lt}
use Rattle.paging_core.specs.declared.page_table.Rights.{Rights}
use Rattle.address_space.specs.Access.{rights_deny, denial_code, IsAccessGranted, IsAccessDenied}

-- the access is granted at each byte from an address on that lies below a page
pub record IsPassed (rights : ℕ → Option Rights) (write user : Bool) (at page : ℕ) : Type 0 where
  pub from : at / 4096 ≤ page
  pub granted : (any : ℕ) → at ≤ any → any / 4096 < page → rights_deny write user (rights (any / 4096)) ≡ false

pub none_passed : (rights : ℕ → Option Rights) (write user : Bool) (at : ℕ) → IsPassed rights write user at (at / 4096)
none_passed rights write user at = record { from = omega arith; granted = λ any from below. absurd (omega (arith, from, below)) }

-- on to the end of a run
pub passed_on : (rights : ℕ → Option Rights) (write user : Bool) (at page end : ℕ) (r : Rights) → IsPassed rights write user at page → page < end →
    ((any : ℕ) → page ≤ any → any < end → rights any ≡ Some r) → rights_deny write user (Some r) ≡ false → IsPassed rights write user at end
passed_on rights write user at page end r p more pages is = record {
  from = (let f = p.from in omega (arith, f, more));
  granted = λ any from below. by_page any from below (cases_lt (any / 4096) page);
} where
  by_page : (any : ℕ) → at ≤ any → any / 4096 < end → (any / 4096 < page) ⊎ (page ≤ any / 4096) → rights_deny write user (rights (any / 4096)) ≡ false
  by_page any from below (inl before) = p.granted any from before
  by_page any from below (inr behind) = ap (rights_deny write user) (pages (any / 4096) behind below) ∙ is

pub denied_at : (rights : ℕ → Option Rights) (write user : Bool) (at count page byte code : ℕ) (o : Option Rights) →
    IsPassed rights write user at page → page ≤ (at + (count - 1)) / 4096 → 0 < count →
    byte / 4096 ≡ page → at ≤ byte → ((any : ℕ) → at ≤ any → any < byte → any / 4096 < page) → ((any : ℕ) → page ≤ any / 4096 → at ≤ any → byte ≤ any) →
    rights page ≡ o → rights_deny write user o ≡ true → code ≡ denial_code write user o → IsAccessDenied rights write user at count byte code
denied_at rights write user at count page byte code o p last some here from first within is denied code_is =
    let same : rights (byte / 4096) ≡ o = ap rights here ∙ is in
    let bound : byte ≤ at + (count - 1) = within (at + (count - 1)) last (omega arith) in
    record {
      from = from;
      within = omega (arith, bound, some);
      denied = ap (rights_deny write user) same ∙ denied;
      first = λ any above below. p.granted any above (first any above below);
      code_is = code_is ∙ sym (ap (denial_code write user) same);
    }

pub all_granted : (rights : ℕ → Option Rights) (write user : Bool) (at count page : ℕ) →
    IsPassed rights write user at page → 0 < count → (at + (count - 1)) / 4096 < page →
    IsAccessGranted rights write user at count
all_granted rights write user at count page p some over any from below = p.granted any from (omega (arith, some, over, below))
