-- Slots, one after another.
use Rattle.std.proofs.Common.{◌≡◌, ℕ, suc, ◌+◌, ◌-◌, ◌*◌, ◌/◌, List, Bool, refl, sym, ◌∙◌, ap, add-one}
use Rattle.std.specs.Prelude.{if◌then◌else◌}
use Rattle.machine_model.specs.Slots.{has_slot}
use Rattle.machine_model.specs.declared.region.Region.{Region}
use Rattle.heap_picture.specs.Large.{larges_from, larges_in}

pub larges_none : (large : List ℕ) (start : ℕ) → 0 ≡ larges_from large start 0
unfolding larges_from
larges_none large start = refl

larges_suc : (large : List ℕ) (start slots : ℕ) → larges_from large start (suc slots) ≡ larges_from large start
    slots + (if has_slot large (start + 2097152 * slots) then 1 else 0)
unfolding larges_from
larges_suc large start slots = refl

-- one slot more is one large page more, or none
pub larges_more : (large : List ℕ) (start slots number number' : ℕ) (b : Bool) →
    b ≡ has_slot large (start + 2097152 * slots) → number ≡ larges_from large start slots →
    number' ≡ number + (if b then 1 else 0) →
    number' ≡ larges_from large start (slots + 1)
larges_more large start slots number number' b is front next =
    next
    ∙ ap (λ (n : ℕ). n + (if b then 1 else 0)) front
    ∙ ap (λ (c : Bool). larges_from large start slots + (if c then 1 else 0)) is
    ∙ sym (larges_suc large start slots)
    ∙ ap (larges_from large start) (sym (add-one slots))

-- the slots that lie whole in a region
pub larges_whole : (large : List ℕ) (region : Region) (start pages rest number : ℕ) → start ≡ region.start → pages ≡ region.pages →
    rest ≡ start + 4096 * pages - (start + 2097151) / 2097152 * 2097152 →
    number ≡ larges_from large ((start + 2097151) / 2097152 * 2097152) (rest / 2097152) →
    number ≡ larges_in large region
unfolding larges_in
larges_whole large region start pages rest number start_is pages_are rest_is is =
    is
    ∙ ap (λ (n : ℕ). larges_from large ((start + 2097151) / 2097152 * 2097152) (n / 2097152)) rest_is
    ∙ ap (λ (n : ℕ). larges_from large ((start + 2097151) / 2097152 * 2097152) ((start + 4096 * n - (start + 2097151) / 2097152 * 2097152) / 2097152)) pages_are
    ∙ ap (λ (n : ℕ). larges_from large ((n + 2097151) / 2097152 * 2097152) ((n + 4096 * region.pages - (n + 2097151) / 2097152 * 2097152) / 2097152)) start_is
