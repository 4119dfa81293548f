-- Requests that the heap refuses while blocks lie on stacks (own).
use Rattle.std.specs.Prelude.{◌≡◌, ℕ, ◌⊎◌, Bool, true, false, List, Result, IfOk, IfErr}
use Rattle.heap_memory.specs.declared.grant.Grant.{Grant}
use Rattle.heap_memory.specs.declared.grant.GrantFault.{GrantFault}
use Rattle.heap_memory.specs.Events.{Event}
use Rattle.dlmalloc.specs.declared.heap.Dlmalloc.{Dlmalloc}
use Rattle.dlmalloc.specs.declared.malloc_error.MallocError.TheVariants.{TooLarge, System}
use Rattle.sound_heap.specs.Heap.{IsBlockHandedOut, IsRequestRefused}
use Rattle.sound_heap.specs.declared.heap_error.HeapError.{HeapError}
use Rattle.sound_heap.specs.declared.heap_error.HeapError.TheVariants.{BadAlign, NoBlock, Refused}
use Rattle.heap_cache.specs.Held.{IsHeld, HasNoneFor, IsGiven}
use Rattle.heap_cache.specs.Emptied.{HasLetGo, AreEmpty, KeepsLive}

-- whether a request is refused for itself, whatever is free: only where the system denies a region, free memory would have helped
abbrev pub is_of_request : HeapError → Bool
is_of_request BadAlign = true
is_of_request NoBlock = true
is_of_request (Refused TooLarge) = true
is_of_request (Refused (System fault)) = false

-- The heap refused a request for want of memory. Then it freed each block that lay on a stack.
pub record HasEmptied {A : Type 0} (regions : A → List Grant) (word : A → ℕ → ℕ) (follows : A → List Event → A → Type 0) (refuses : A → A → Type 0) (denies : A → ℕ → GrantFault → Type 0)
    (frees parts : A → Bool) (unit : A → ℕ) (old : Dlmalloc A) (rows : List ℕ) (size align : ℕ) (emptied : Dlmalloc A) (rows' : List ℕ) : Type 0 where
  pub error : HeapError
  pub for_memory : is_of_request error ≡ false
  pub first : Dlmalloc A
  pub refused : IsRequestRefused regions word follows refuses denies old size align error first
  pub gone : HasLetGo regions word follows frees parts unit first rows emptied rows'
  pub empty : AreEmpty rows'

-- a block of `size` bytes at a multiple of an alignment was handed out, once the heap had refused that and had freed all that lay on
-- stacks
abbrev pub IsServedEmptied : {A : Type 0} → (A → List Grant) → (A → ℕ → ℕ) → (A → Bool) → (A → List Event → A → Type 0) → (A → A → Type 0) → (A → ℕ → GrantFault → Type 0) →
    (A → Bool) → (A → Bool) → (A → ℕ) → Dlmalloc A → List ℕ → ℕ → ℕ → ℕ → Dlmalloc A → List ℕ → Type 0
IsServedEmptied {A = A} regions word zeros follows refuses denies frees parts unit old rows size align address new rows' =
    (emptied : Dlmalloc A) × HasEmptied regions word follows refuses denies frees parts unit old rows size align emptied rows' × IsBlockHandedOut regions word zeros follows emptied size align false address new

-- The heap refuses a request for itself, and nothing changed; or it refuses it, and refuses it again once it has freed all that lay on
-- stacks.
abbrev pub IsRefusedEmptied : {A : Type 0} → (A → List Grant) → (A → ℕ → ℕ) → (A → List Event → A → Type 0) → (A → A → Type 0) → (A → ℕ → GrantFault → Type 0) →
    (A → Bool) → (A → Bool) → (A → ℕ) → Dlmalloc A → List ℕ → ℕ → ℕ → HeapError → Dlmalloc A → List ℕ → Type 0
IsRefusedEmptied {A = A} regions word follows refuses denies frees parts unit old rows size align error new rows' =
    ((is_of_request error ≡ true) × IsRequestRefused regions word follows refuses denies old size align error new × (new ≡ old) × (rows' ≡ rows))
    ⊎ ((emptied : Dlmalloc A) × HasEmptied regions word follows refuses denies frees parts unit old rows size align emptied rows' × IsRequestRefused regions word follows refuses denies emptied size align error new)

-- A block of `size` bytes at a multiple of 16 was handed out: one that lay on a stack; or, if no stack has one for it, a new one; or,
-- if the heap refused that, a new one once the heap had freed all that lay on stacks.
abbrev pub IsServed : {A : Type 0} → (A → List Grant) → (A → ℕ → ℕ) → (A → Bool) → (A → List Event → A → Type 0) → (A → A → Type 0) → (A → ℕ → GrantFault → Type 0) →
    (A → Bool) → (A → Bool) → (A → ℕ) → Dlmalloc A → List ℕ → ℕ → ℕ → Dlmalloc A → List ℕ → Type 0
IsServed regions word zeros follows refuses denies frees parts unit old rows size address new rows' =
    IsGiven regions word zeros follows old rows size address new rows'
    ⊎ (HasNoneFor rows size × IsServedEmptied regions word zeros follows refuses denies frees parts unit old rows size 16 address new rows')

-- A request is refused: no stack has a block for it, and the heap refuses it, whatever is free or with all stacks empty.
abbrev pub IsRefused : {A : Type 0} → (A → List Grant) → (A → ℕ → ℕ) → (A → List Event → A → Type 0) → (A → A → Type 0) → (A → ℕ → GrantFault → Type 0) →
    (A → Bool) → (A → Bool) → (A → ℕ) → Dlmalloc A → List ℕ → ℕ → HeapError → Dlmalloc A → List ℕ → Type 0
IsRefused regions word follows refuses denies frees parts unit old rows size error new rows' =
    HasNoneFor rows size × IsRefusedEmptied regions word follows refuses denies frees parts unit old rows size 16 error new rows'

-- A block at a multiple of an alignment was handed out by the heap: at once, beside what lies on stacks; or once it had refused that,
-- and had freed all that lay on stacks.
abbrev pub IsServedAligned : {A : Type 0} → (A → List Grant) → (A → ℕ → ℕ) → (A → Bool) → (A → List Event → A → Type 0) → (A → A → Type 0) → (A → ℕ → GrantFault → Type 0) →
    (A → Bool) → (A → Bool) → (A → ℕ) → Dlmalloc A → List ℕ → ℕ → ℕ → ℕ → Dlmalloc A → List ℕ → Type 0
IsServedAligned regions word zeros follows refuses denies frees parts unit old rows size align address new rows' =
    (IsBlockHandedOut regions word zeros follows old size align false address new × (rows' ≡ rows) × (IsHeld rows' address → ⊥))
    ⊎ IsServedEmptied regions word zeros follows refuses denies frees parts unit old rows size align address new rows'

-- The heap freed all that lay on stacks, and was asked for a block: it handed one out, or refused. Nothing lies on a stack.
abbrev pub IsAskedEmptied : {A : Type 0} → (A → List Grant) → (A → ℕ → ℕ) → (A → Bool) → (A → List Event → A → Type 0) → (A → A → Type 0) → (A → ℕ → GrantFault → Type 0) →
    (A → Bool) → (A → Bool) → (A → ℕ) → Dlmalloc A → List ℕ → ℕ → ℕ → Result ℕ HeapError → Dlmalloc A → List ℕ → Type 0
IsAskedEmptied {A = A} regions word zeros follows refuses denies frees parts unit old rows size align answer new rows' =
    (emptied : Dlmalloc A) × HasLetGo regions word follows frees parts unit old rows emptied rows' × AreEmpty rows'
    × IfOk answer (λ address. IsBlockHandedOut regions word zeros follows emptied size align false address new)
    × IfErr answer (λ error. IsRequestRefused regions word follows refuses denies emptied size align error new × KeepsLive word emptied rows' new rows')

-- After an error the heap is asked again only if free memory could help, and then with nothing on stacks.
abbrev pub IsAskedAgain : {A : Type 0} → (A → List Grant) → (A → ℕ → ℕ) → (A → Bool) → (A → List Event → A → Type 0) → (A → A → Type 0) → (A → ℕ → GrantFault → Type 0) →
    (A → Bool) → (A → Bool) → (A → ℕ) → Dlmalloc A → List ℕ → ℕ → ℕ → HeapError → Result ℕ HeapError → Dlmalloc A → List ℕ → Type 0
IsAskedAgain regions word zeros follows refuses denies frees parts unit old rows size align error answer new rows' =
    ((is_of_request error ≡ true) × IfOk answer (λ address. ⊥) × IfErr answer (λ again. again ≡ error) × (new ≡ old) × (rows' ≡ rows))
    ⊎ ((is_of_request error ≡ false) × IsAskedEmptied regions word zeros follows refuses denies frees parts unit old rows size align answer new rows')
