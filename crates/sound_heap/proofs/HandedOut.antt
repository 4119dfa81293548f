-- A block is handed out as it is, or cleared.
use Rattle.std.proofs.Common.{◌≡◌, ℕ, Bool, true, false, List, arith}
use Rattle.std.specs.Int.{IsPowerOfTwo}
use Rattle.heap_memory.specs.declared.grant.Grant.{Grant}
use Rattle.heap_memory.specs.Events.{Event}
use Rattle.dlmalloc.specs.Heap.{state_of}
use Rattle.dlmalloc.specs.Outcome.{IsAllocated, IsAllocatedCleared}
use Rattle.dlmalloc.specs.declared.heap.Dlmalloc.{Dlmalloc}
use Rattle.sound_heap.specs.Heap.{IsBlockHandedOut}
use Rattle.sound_heap.proofs.BlockWords.{enough}

module _ {A : Type 0} (regions : A → List Grant) (word : A → ℕ → ℕ) (zeros : A → Bool)
    (follows : A → List Event → A → Type 0) (old new : Dlmalloc A) (size align : ℕ)
    (power : IsPowerOfTwo align) (cleared : Bool) (address : ℕ) where
  pub handed_plain : cleared ≡ false → IsAllocated regions word zeros follows old size align address new →
      IsBlockHandedOut regions word zeros follows old size align cleared address new
  handed_plain plain out = record {
    handed = out.handed;
    served = λ _. out.served;
    served_cleared = λ is. absurd (cc);
    are_zero = λ is. absurd (cc);
    member = out.member;
    enough = enough (state_of word new) address size out.handed.block;
    power = power;
  }

  -- the words that hold its bytes are 0
  pub handed_cleared : cleared ≡ true → IsAllocatedCleared regions word zeros follows old size align address new →
      IsBlockHandedOut regions word zeros follows old size align cleared address new
  handed_cleared all out = record {
    handed = out.handed;
    served = λ is. absurd (cc);
    served_cleared = λ _. out.served;
    are_zero = λ _ k from to whole. out.served.cleared.here k from (omega (arith, to)) whole;
    member = out.member;
    enough = enough (state_of word new) address size out.handed.block;
    power = power;
  }
