-- What a stay, a region or a large page covers: addresses, over calls.
use Rattle.std.specs.Prelude.{ℕ, ◌+◌, ◌-◌, ◌*◌, ◌^◌, min, max, Bool, ◌&&◌, nat_lt, List}
use Rattle.std.specs.List.{count_by, sum_by}
use Rattle.heap_history.specs.declared.band.Band.{Band}
use Rattle.heap_history.specs.declared.history.Stay.{Stay}
use Rattle.heap_history.specs.declared.history.Held.{Held}
use Rattle.heap_history.specs.declared.history.LargePage.{LargePage}
use Rattle.heap_time.specs.declared.covers.Cover.{Cover}

-- an address, of which the last is 2 ^ 64 - 1
abbrev pub as_address : ℕ → ℕ
as_address number = min number (2 ^ 64 - 1)

-- a block has its bytes, and one if it has none
abbrev pub stay_cover : Stay → Cover
stay_cover stay = record { low = stay.address; high = as_address (stay.address + max stay.size 1); born = stay.born; end = stay.end }

-- pages have 4096 bytes
abbrev pub held_cover : Held → Cover
held_cover held = record { low = held.start; high = as_address (held.start + 4096 * held.pages); born = held.born; end = held.end }

-- a large page has 2 MiB, and is drawn from the call on that made it
abbrev pub large_cover : ℕ → LargePage → Cover
large_cover calls large = record { low = large.slot; high = as_address (large.slot + 2097152); born = large.born; end = calls }

-- the lowest address of a band that is covered
abbrev pub bottom_in : Band → Cover → ℕ
bottom_in band cover = max band.low cover.low

-- the first address above those of a band that are covered
abbrev pub top_in : Band → Cover → ℕ
top_in band cover = min band.high cover.high

-- whether an address of a band is covered, at some call
abbrev pub band_meets : Band → Cover → Bool
band_meets band cover = nat_lt (bottom_in band cover) (top_in band cover) && nat_lt cover.born cover.end

-- how many stays and regions of the heap a band has
unfoldable pub parts_in : List Stay → List Held → Band → ℕ
parts_in stays heap band = count_by (λ stay. band_meets band (stay_cover stay)) stays + count_by (λ held. band_meets band (held_cover held)) heap

-- and how many all bands have
abbrev pub parts_number : List Band → List Stay → List Held → ℕ
parts_number bands stays heap = sum_by (parts_in stays heap) bands
