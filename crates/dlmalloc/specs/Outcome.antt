-- What a request came to: a block was handed out or got another size, or the request was refused.
use Rattle.std.specs.Prelude.{◌≡◌, ◌≢◌, ℕ, ◌-◌, ◌≤◌, Bool, List, Option, None, IfSome}
use Rattle.heap_memory.specs.declared.allocator.Allocator.{Ghosts as Allocator}
use Rattle.heap_memory.specs.declared.links.Links.{Ghosts as Links}
use Rattle.heap_memory.specs.declared.grant.Grant.{Grant}
use Rattle.heap_memory.specs.declared.grant.GrantFault.{GrantFault}
use Rattle.heap_memory.specs.Events.{Event}
use Rattle.dlmalloc_chunks.specs.Request.{padded}
use Rattle.dlmalloc.specs.Heap.{state_of}
use Rattle.dlmalloc.specs.Resized.{in_place}
use Rattle.dlmalloc.specs.Served.{IsRefusedWith}
use Rattle.dlmalloc.specs.Requested.{asked, IsServedAt, IsHandedOut, IsMemberServed}
use Rattle.dlmalloc.specs.Written.{IsServedCleared}
use Rattle.dlmalloc.specs.Moved.{IsResized, IsGivenSize}
use Rattle.dlmalloc.specs.declared.heap.Dlmalloc.{Dlmalloc}
use Rattle.dlmalloc.specs.declared.malloc_error.MallocError.{MallocError}
use Rattle.dlmalloc.specs.declared.malloc_error.MallocError.TheVariants.{TooLarge}

-- A block was handed out: from where it was cut, what holds of each such block, and which binned extent it is in.
pub record IsAllocated {A : Type 0} (regions : A → List Grant) (word : A → ℕ → ℕ) (zeros : A → Bool) (follows : A → List Event → A → Type 0) (old : Dlmalloc A) (size align address : ℕ) (new : Dlmalloc A) : Type 0 where
  pub served : IsServedAt regions word zeros follows old size align address new
  pub handed : IsHandedOut regions word follows old size align address new
  pub member : IsMemberServed regions word old size align address

-- The same of a block that is cleared.
pub record IsAllocatedCleared {A : Type 0} (regions : A → List Grant) (word : A → ℕ → ℕ) (zeros : A → Bool) (follows : A → List Event → A → Type 0) (old : Dlmalloc A) (size align address : ℕ) (new : Dlmalloc A) : Type 0 where
  pub served : IsServedCleared regions word zeros follows old size align address new
  pub handed : IsHandedOut regions word follows old size align address new
  pub member : IsMemberServed regions word old size align address

-- A block of which `held` bytes are held got another size: how, what holds of each such block, and, if it moved, which
-- binned extent it is in.
pub record IsReallocated {A : Type 0} (regions : A → List Grant) (word : A → ℕ → ℕ) (zeros : A → Bool) (follows : A → List Event → A → Type 0) (frees parts : Bool) (unit : ℕ) (old : Dlmalloc A) (from held align size address : ℕ) (new : Dlmalloc A) : Type 0 where
  pub resized : IsResized regions word zeros follows frees parts unit old from held align size address new
  pub given : IsGivenSize regions word follows frees parts unit old from held align size address new
  pub member : address ≢ from → IsMemberServed regions word old size align address

-- A block, if one was given, was refused another size, and all is as it was. Unless that is too large, the block could not
-- get it where it stands, up to alignment 16.
pub record IsReallocRefused {A : Type 0} (regions : A → List Grant) (word : A → ℕ → ℕ) (follows : A → List Event → A → Type 0) (refuses : A → A → Type 0) (denies : A → ℕ → GrantFault → Type 0) (old : Dlmalloc A) (from : Option ℕ) (align size : ℕ) (error : MallocError) (new : Dlmalloc A) : Type 0 where
  pub refused : IsRefusedWith regions word follows refuses denies old (asked size align) error new
  pub tried : error ≢ TooLarge → align ≤ 16 → IfSome from (λ at. in_place (state_of word old) (at - 16) (padded size) ≡ None)

-- so say what its system means by its regions and words, and what it grants, denies and takes back
abbrev pub IsAllocatedBy : {A : Type 0} → Links A → Allocator A → Dlmalloc A → ℕ → ℕ → ℕ → Dlmalloc A → Type 0
IsAllocatedBy links allocator old size align address new = IsAllocated links.regions links.word allocator.zeros links.follows old size align address new

-- what `realloc` does, with the words of a store and the rules of its system
abbrev pub IsReallocatedBy : {A : Type 0} → Links A → Allocator A → Dlmalloc A → ℕ → ℕ → ℕ → ℕ → ℕ → Dlmalloc A → Type 0
IsReallocatedBy links allocator old from held align size address new = IsReallocated links.regions links.word allocator.zeros links.follows (allocator.frees old.system) (allocator.parts old.system) (allocator.unit old.system) old from held align size address new

-- a refusal by `realloc`, with the words of a store and the refusals of its system
abbrev pub IsReallocRefusedBy : {A : Type 0} → Links A → Allocator A → Dlmalloc A → Option ℕ → ℕ → ℕ → MallocError → Dlmalloc A → Type 0
IsReallocRefusedBy links allocator old from align size error new = IsReallocRefused links.regions links.word links.follows allocator.refuses allocator.denies old from align size error new
