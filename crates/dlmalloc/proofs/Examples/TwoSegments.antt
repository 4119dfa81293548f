-- A heap of two segments is sound: a head segment that is all top, and one with a block, which a record describes.
use Rattle.std.proofs.Common.{◌≡◌, ℕ, true, ◌&&◌, ◌==◌, nat_le, nat_lt, if◌then◌else◌, inl, inr, List, [], ◌∷◌, refl, sym, subst, arith}
use Rattle.std.proofs.lemmas.Bool.Decides.{nat_tests}
use Rattle.heap_memory.specs.declared.grant.Grant.{Grant}
use Rattle.dlmalloc_chunks.specs.declared.extent.Kind.TheVariants.{Used, Top, Record, Foot}
use Rattle.dlmalloc.specs.State.{Segment}
use Rattle.dlmalloc.specs.Segments.{AreSegments, AreApart}
use Rattle.dlmalloc.specs.Heap.{segments_of, AreTold, IsSound}
use Rattle.dlmalloc.specs.declared.heap.Dlmalloc.{Dlmalloc}
use Rattle.dlmalloc.proofs.Extents.Lookup.{extent}
use Rattle.dlmalloc.proofs.Moves.OfHeaps.{segments_read}

abbrev other : Segment
other = record { base = 4096; size = 128; flags = 0; extents = extent 4096 48 Used ∷ extent 4144 80 Record ∷ [] }

abbrev head : Segment
head = record { base = 8192; size = 128; flags = 0; extents = extent 8192 48 Top ∷ extent 8240 80 Foot ∷ [] }

abbrev regions : (ℕ → ℕ) → List Grant
regions words = (record { base = 4096; size = 128; flags = 0 }) ∷ (record { base = 8192; size = 128; flags = 0 }) ∷ []

-- the heads of the block, of the record, of the top and of its foot; the record's payload, and its fences
abbrev words : ℕ → ℕ
words k =
    if nat_le 4200 k && nat_lt k 4224 then 11 else if k == 4104 then 51 else if k == 4152 then 51 else if k == 8200 then 49 else if k == 8248 then 80
    else if k == 4160 then 4096 else if k == 4168 then 128 else 0

abbrev heap : Dlmalloc (ℕ → ℕ)
heap = record {
  system = words;
  base = 8192;
  size = 128;
  flags = 0;
  next = 4160;
  top = 8192;
  top_size = 48;
  victim = 0;
  victim_size = 0;
  bins = record { firsts = []; lasts = []; small_map = 0; roots = []; tree_map = 0 };
  granularity = 65536;
  rate = 4095;
  countdown = 0;
  trim_check = 0;
}

two_segments : AreSegments (regions words) words (head ∷ other ∷ [])
two_segments = (
  record {
    run = record { covered = λ k low high. grind (arith, nat_tests); whole = (inl (inl (omega arith)), (inr (omega arith, omega arith, refl), tt)) };
    low = omega arith;
    high = omega arith;
    long = omega arith;
    extents = (
      refl,
      record { whole = refl; size = (refl, omega arith); kind = refl; head = refl; foot = λ free. absurd (cc); fence = λ is. absurd (cc) },
      (refl, record { whole = refl; size = refl; kind = refl; head = refl; foot = λ free. absurd (cc); fence = λ is. absurd (cc) }, refl),
    );
    tail = refl;
  },
  (
    record {
      run = record { covered = λ k low high. grind (arith, nat_tests); whole = (inr (omega arith, omega arith, refl), (inl (inr (omega arith)), tt)) };
      low = omega arith;
      high = omega arith;
      long = omega arith;
      extents = (
        refl,
        record { whole = refl; size = (refl, omega arith); kind = inl refl; head = refl; foot = λ free. absurd (cc); fence = λ is. absurd (cc) },
        (
          refl,
          record {
            whole = refl;
            size = inl refl;
            kind = inl refl;
            head = refl;
            foot = λ free. absurd (cc);
            fence = λ is k low high m. (let one : nat_le 4200 k ≡ true = grind (arith, nat_tests) in
                let two : nat_lt k 4224 ≡ true = grind (arith, nat_tests) in rw (one, two) refl);
          },
          refl,
        ),
      );
      tail = refl;
    },
    tt,
  ),
)

two_apart : AreApart (head ∷ other ∷ [])
two_apart = ((inr (omega arith), tt), (tt, tt))

two_told : AreTold words heap (head ∷ other ∷ [])
two_told = (omega arith, refl, refl, refl, refl, (omega arith, refl, refl, refl, refl, refl))

two_read : segments_of (λ w. w) heap ≡ head ∷ other ∷ []
two_read = segments_read (regions words) (λ w. w) heap (head ∷ other ∷ []) two_segments two_told (omega arith)

two_sound : IsSound regions (λ w. w) heap
two_sound = record {
  granularity = ((16, refl), omega arith);
  segments = subst (AreSegments (regions words) words) (sym two_read) two_segments;
  apart = subst AreApart (sym two_read) two_apart;
  told = subst (AreTold words heap) (sym two_read) two_told;
  none = λ gone. absurd (cc);
  no_victim = λ none. refl;
  victim = λ some. absurd (some refl);
}
