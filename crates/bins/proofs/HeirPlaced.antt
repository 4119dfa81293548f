-- The heir of a node takes its place.
use Rattle.std.proofs.Common.{◌≡◌, ◌≢◌, ℕ, ◌+◌, ◌*◌, ◌<◌, ◌≤◌, inl, inr, Bool, true, false, not, List, [], ◌∷◌, refl, sym, ap, subst, ◌∙◌, arith}
use Rattle.heap_memory.specs.declared.grant.Grant.{Grant}
use Rattle.bins.specs.Index.{IsIn, AreDistinct, first_or, removed, without_chunk, without_size}
use Rattle.bins.specs.Rings.{IsRing}
use Rattle.bins.specs.Tries.{both, low_at, width, IsTrie}
use Rattle.bins.specs.Linked.{AreChunks}
use Rattle.bins.specs.Stores.{HasHeirLinks, HasPlaced}
use Rattle.bins.specs.Places.{HasRoom, CanTurn, CanBeNode}
use Rattle.bins.specs.Below.{OnlyHeldChanges}
use Rattle.bins.proofs.Frame.{trie_kept, in_without, in_half}
use Rattle.bins.proofs.Reindexed.{trie_reindexed}
use Rattle.bins.proofs.Lists.{last_in, removed_at, minus_same, minus_other, first_in, later_in}
use Rattle.bins.proofs.Chunks.{same_or_not, chunk_kept, size_apart, chunk_place, words_apart}
use Rattle.bins.proofs.Pulled.{in_minus}
use Rattle.bins.proofs.Opened.{Opened}
use Rattle.bins.proofs.Placed.{placed_opened}
use Rattle.bins.proofs.Heir.{heir_ring}
use Rattle.bins.proofs.Changed.{without_unchanged}
use Rattle.bins.proofs.KidPlaces.{x_place, kid, kid_in, can_be_node}

-- a ring that does not begin with its mark has a first
pub rest_of : (at : ℕ) {heir : ℕ} (others : List ℕ) → heir ≡ first_or at others → heir ≢ at → (rest : List ℕ) × (others ≡ heir ∷ rest)
rest_of at [] is other = absurd (other is)
rest_of at (x ∷ xs) is other = (xs, ap (λ y. y ∷ xs) (sym is))

module _ {regions : List Grant} {old : ℕ → ℕ} {index : ℕ → List ℕ} {bin parent low n at : ℕ} {heir : ℕ}
    (chunks : AreChunks regions old index) (large : (m c : ℕ) → IsIn c (index m) → 256 ≤ m) (o : Opened old index bin parent low n at)
    (heir_is : heir ≡ old (at + 24)) (other : heir ≢ at) where
  -- the index of the children, and where their ranges begin
  abbrev lower : ℕ → List ℕ
  lower = without_size o.node.size index

  abbrev under : Bool → ℕ
  under side = low_at side low (width n)

  heirs : (rest : List ℕ) × (o.node.others ≡ heir ∷ rest)
  heirs = rest_of at o.node.others (heir_is ∙ o.node.ring.begins) other

  abbrev rest : List ℕ
  rest = heirs.0

  others_are : o.node.others ≡ heir ∷ rest
  others_are = heirs.1

  abbrev last : ℕ
  last = old (at + 16)

  abbrev kids : Bool → ℕ
  kids = both (old (at + 32)) (old (at + 40))

  listed_old : index o.node.size ≡ at ∷ heir ∷ rest
  listed_old = o.node.chunks ∙ ap (λ (cs : List ℕ). at ∷ cs) others_are

  once : AreDistinct (at ∷ heir ∷ rest)
  once = subst (λ (cs : List ℕ). AreDistinct cs) listed_old (chunks.once o.node.size)

  ring_in : (c : ℕ) → IsIn c (heir ∷ rest) → IsIn c (index o.node.size)
  ring_in c is = later_in c listed_old is

  at_in : IsIn at (index o.node.size)
  at_in = first_in listed_old

  heir_in : IsIn heir (index o.node.size)
  heir_in = ring_in heir (inl refl)

  ring : IsRing old at (old (at + 24)) last (heir ∷ rest)
  ring = subst (λ (cs : List ℕ). IsRing old at (old (at + 24)) last cs) others_are o.node.ring

  last_there : IsIn last (heir ∷ rest)
  last_there = subst (λ c. IsIn c (heir ∷ rest)) (sym ring.ends) (last_in heir rest)

  last_listed : IsIn last (index o.node.size)
  last_listed = ring_in last last_there

  tries_old : (side : Bool) → IsTrie old lower bin at (under side) n (kids side)
  tries_old false =
      subst (λ x. IsTrie old lower bin at (under false) n x) (sym (o.node.child_is false)) (o.children false)
  tries_old true =
      subst (λ x. IsTrie old lower bin at (under true) n x) (sym (o.node.child_is true)) (o.children true)

  -- ---- what the stores need
  pub h_here : HasRoom regions at
  h_here = x_place old o.node.size bin at low n at kids chunks large at_in tries_old

  pub h_turn : CanTurn regions heir last
  h_turn =
      let h = chunks.each o.node.size heir heir_in in let l = chunks.each o.node.size last last_listed in
      record {
        own = x_place old o.node.size bin at low n heir kids chunks large heir_in tries_old 2 (omega arith) (omega arith);
        behind = x_place old o.node.size bin at low n last kids chunks large last_listed tries_old 3 (omega arith) (omega arith);
        other = λ e. omega (arith, h.aligned, l.aligned);
      }

  pub h_node : CanBeNode regions heir kids
  h_node = can_be_node old o.node.size bin at low n heir kids chunks large heir_in tries_old

  -- ---- the links
  module _ {mid new : ℕ → ℕ} (links : HasHeirLinks regions old heir (old (at + 16)) mid) (placed : HasPlaced regions mid heir kids parent bin new) where
    mid_word : (m c k : ℕ) → IsIn c (index m) → 0 < k → 8 * k < 64 → (c ≡ heir → k ≢ 2) → (c ≡ last → k ≢ 3) →
        mid (c + 8 * k) ≡ old (c + 8 * k)
    mid_word m c k c_in some few no_heir no_last =
        links.elsewhere (c + 8 * k) (chunk_place chunks large m c k c_in some few).word
        (λ e. elim (same_or_not c heir) [
          | inl same ↦ no_heir same (omega arith)
          | inr not ↦ words_apart chunks large m c
              o.node.size heir k 16 c_in heir_in not few (omega arith) e
        ])
        (λ e. elim (same_or_not c last) [
          | inl same ↦ no_last same (omega arith)
          | inr not ↦ words_apart chunks large m c
              o.node.size last k 24 c_in last_listed not few (omega arith) e
        ])

    listed : without_chunk o.node.size at index o.node.size ≡ heir ∷ rest
    listed = minus_same o.node.size at index ∙ (ap (λ (cs : List ℕ). removed at cs) listed_old ∙ removed_at at [] (heir ∷ rest) once)

    chunks_less : AreChunks regions mid (without_chunk o.node.size at index)
    chunks_less = record {
      each = λ m c is. let was = in_minus o.node.size at index m c is in
          chunk_kept mid (mid_word m c 1 was (omega arith) (omega arith) (λ e. λ k. omega arith) (λ e. λ k. omega arith)) (chunks.each m c was);
      apart = λ m c j d c_is d_is not. chunks.apart m c j d (in_minus o.node.size at index m c c_is) (in_minus o.node.size at index j d d_is) not;
      once = λ m. elim (same_or_not m o.node.size) [
        | inl e ↦ subst (λ (cs : List ℕ). AreDistinct cs) (sym (ap (without_chunk o.node.size at index) e ∙ listed)) once.1
        | inr e ↦ subst (λ (cs : List ℕ). AreDistinct cs) (sym (minus_other o.node.size at index m e)) (chunks.once m)
      ];
    }

    ring_mid : IsRing mid heir (mid (heir + 24)) (mid (heir + 16)) rest
    ring_mid = heir_ring old mid at heir rest (old (at + 24)) last once.1 ring links.prev links.next
        (λ c is. mid_word o.node.size c 2 (ring_in c (inr is)) (omega arith) (omega arith)
        (λ e. absurd (once.1.0 (subst (λ x. IsIn x rest) e is))) (λ e. λ k. omega arith))
        (λ c is not. mid_word o.node.size c 3 (ring_in c is) (omega arith) (omega arith) (λ e. λ k. omega arith) (λ e. absurd (not e)))

    tries_mid : (side : Bool) → IsTrie mid (without_size o.node.size (without_chunk o.node.size at index)) bin at (under side) n (kids side)
    tries_mid side =
        let stays = trie_kept old mid bin lower at (under side) n (kids side)
        (λ m a b c is k some few. mid_word m c k (in_without o.node.size index m c is) some few
        (λ e. absurd (size_apart chunks o.node.size m c heir is heir_in e))
        (λ e. absurd (size_apart chunks o.node.size m c last is last_listed e))) (tries_old side) in
        trie_reindexed mid bin lower (without_size o.node.size (without_chunk o.node.size at index)) at (under side) n (kids side)
        (λ m a b. without_unchanged (removed at) o.node.size o.node.size index m (λ is. is)) stays

    pub heir_opened : Opened new (without_chunk o.node.size at index) bin parent low n heir
    heir_opened = placed_opened low n o.node.size (λ b. at)
        chunks_less (λ m c is. large m c (in_minus o.node.size at index m c is)) o.node.above o.node.below listed ring_mid tries_mid placed

    pub heir_words : OnlyHeldChanges regions index low (low + 2 * width n) old new
    heir_words p word out =
        let d = o.node in
        let l = large d.size heir heir_in in
        placed.elsewhere p word
        (elim (out d.size heir d.above d.below heir_in) [ inl x ↦ inl (omega arith) | inr (inl x) ↦ inr x | inr (inr (less, x)) ↦ absurd (omega arith) ])
        (λ b real e.
        let r = kid old d.size bin at low n heir kids chunks large heir_in tries_old b real in
        let c_in = kid_in old d.size bin at low n heir kids chunks large heir_in tries_old b real in
        let h = in_half b low (width n) r.size r.above r.below in
        let lk = large r.size (kids b) c_in in
        elim (out r.size (kids b) h.0 h.1 c_in) [
          | inl x ↦ omega arith
          | inr (inl x) ↦ omega arith
          | inr (inr (less, x)) ↦ omega arith
        ])
        ∙ links.elsewhere p word
        (λ e. elim (out d.size heir d.above d.below heir_in) [ inl x ↦ omega arith | inr (inl x) ↦ omega arith | inr (inr (less, x)) ↦ omega arith ])
        (λ e. elim (out d.size last d.above d.below last_listed) [ inl x ↦ omega arith | inr (inl x) ↦ omega arith | inr (inr (less, x)) ↦ omega arith ])
