-- The block that a call is served, or gives another size.
use Rattle.std.specs.Prelude.{◌≡◌, ◌≢◌, ◌-◌, ◌≤◌, ℕ, Bool, true, false, None}
use Rattle.dlmalloc_chunks.specs.Request.{padded}
use Rattle.dlmalloc.specs.Requested.{asked, IsServedAt, IsMemberServed}
use Rattle.dlmalloc.specs.Resized.{in_place}
use Rattle.dlmalloc.specs.Served.{IsRefusedWith}
use Rattle.dlmalloc.specs.State.{HeapState}
use Rattle.dlmalloc.specs.Written.{IsServedCleared}
use Rattle.dlmalloc.specs.Moved.{IsResized, IsGivenSize}
use Rattle.dlmalloc.specs.declared.heap.Dlmalloc.{Dlmalloc}
use Rattle.dlmalloc.specs.declared.malloc_error.MallocError.{MallocError}
use Rattle.dlmalloc.specs.declared.malloc_error.MallocError.TheVariants.{TooLarge}
use Rattle.sound_heap.specs.Heap.{usable}
use Rattle.machine_model.specs.declared.live.Live.{Live}
use Rattle.machine_model.specs.declared.call.Call.{Call}
use Rattle.machine_model.specs.declared.call.Call.TheVariants.{Malloc, Calloc, Realloc, CRealloc}
use Rattle.kernel_heap.specs.Heap.{regions, word, follows, zeros, refuses, denies, heap_state}
use Rattle.paged_systems.specs.declared.paged_system.PagedSystem.{PagedSystem}

-- a block is handed out, and is cleared then where that is asked for
abbrev pub IsServedFor : Bool → Dlmalloc PagedSystem → ℕ → ℕ → ℕ → Dlmalloc PagedSystem → Type 0
IsServedFor false old size align address new = IsServedAt regions word zeros follows old size align address new
IsServedFor true old size align address new = IsServedCleared regions word zeros follows old size align address new

-- the call that asks for a block, of value 0 or not
abbrev pub request : Bool → ℕ → ℕ → Call
request false size align = Malloc size align
request true size align = Calloc size align

-- the call that gives a block another size, with its own alignment or the least
abbrev pub resizing : Bool → ℕ → ℕ → Call
resizing true number size = Realloc number size
resizing false number size = CRealloc number size

-- the alignment that a live block has then
abbrev pub align_kept : Bool → Live → ℕ
align_kept true live = live.align
align_kept false live = 16

-- how many of its bytes are copied then at most: as many as it has, or as many as its chunk holds
abbrev pub bytes_kept : Bool → HeapState → Live → ℕ
bytes_kept true heap live = live.size
bytes_kept false heap live = usable heap live.address

-- So a live block gets that size. The system takes back whole runs, and ends of runs in pages.
abbrev pub IsResizedTo : Bool → Dlmalloc PagedSystem → Live → ℕ → ℕ → Dlmalloc PagedSystem → Type 0
IsResizedTo keeps old live size address new =
    IsResized regions word zeros follows true true 4096 old live.address (bytes_kept keeps (heap_state old) live) (align_kept keeps live) size address new

-- So it gets it at an address: as the heap tells, with its bytes, and elsewhere only where the order of the bins has a place.
pub record IsLiveResized (keeps : Bool) (old : Dlmalloc PagedSystem) (live : Live) (size address : ℕ) (new : Dlmalloc PagedSystem) : Type 0 where
  pub given : IsGivenSize regions word follows true true 4096 old live.address live.size (align_kept keeps live) size address new
  pub resized : IsResizedTo keeps old live size address new
  pub member : address ≢ live.address → IsMemberServed regions word old size (align_kept keeps live) address

-- So it does not: the heap refuses it, and up to alignment 16 it cannot get that size where it stands.
pub record IsLiveRefused (keeps : Bool) (old : Dlmalloc PagedSystem) (live : Live) (size : ℕ) (error : MallocError) (new : Dlmalloc PagedSystem) : Type 0 where
  pub refused : IsRefusedWith regions word follows refuses denies old (asked size (align_kept keeps live)) error new
  pub tried : error ≢ TooLarge → align_kept keeps live ≤ 16 → in_place (heap_state old) (live.address - 16) (padded size) ≡ None
