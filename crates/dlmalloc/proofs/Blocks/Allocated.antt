-- Blocks that are handed out up to alignment 16.
use Rattle.dlmalloc.proofs.Names.{ℕ, ◌-◌, ◌≤◌, Bool, List, inl, IsPowerOfTwo, Grant, Event, padded, Dlmalloc}
use Rattle.dlmalloc.specs.Binned.{IsMemberChosen}
use Rattle.dlmalloc.specs.Served.{IsServed}
use Rattle.dlmalloc.specs.Outcome.{IsAllocated}
use Rattle.dlmalloc.proofs.Bins.Members.{member_low}
use Rattle.dlmalloc.proofs.Blocks.HandedOut.{handed_low}

pub allocated_low : {A : Type 0} {regions : A → List Grant} {word : A → ℕ → ℕ} {zeros : A → Bool}
    {follows : A → List Event → A → Type 0} {old new : Dlmalloc A} {size align address : ℕ} →
    IsPowerOfTwo align → align ≤ 16 → IsServed regions word zeros follows old size address new →
    IsMemberChosen regions word old (padded size) (address - 16) → IsAllocated regions word zeros follows old size align address new
allocated_low {regions} {word} {old} {size} {align} {address} power low served member =
    let handed = handed_low power low served in record {
      served = inl (low, served);
      handed = handed;
      member = member_low regions word old size align address low handed.low handed.multiple member;
    }
