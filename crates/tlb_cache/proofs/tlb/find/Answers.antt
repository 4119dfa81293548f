use Rattle.std.proofs.Common.{◌≡◌, ℕ, ◌-◌, ◌<◌, ◌≤◌, length, slice_get, slice_index, Some, ap, ◌∙◌, sym, arith}
use Rattle.tlb_cache.specs.Cache.{cached_pages}
use Rattle.tlb_cache.specs.Chains.{hash_of}
use Rattle.tlb_cache.proofs.Entries.{got, page_got, not_past, length_pages, has_at, none_at}
use Rattle.tlb_cache.proofs.tlb.find.Goals as goal

pub returns-then-number-page-clause-some : goal.returns-then-number-page-clause-some
returns-then-number-page-clause-some c =
    let items = c.args.ring.now.items in
    let age = c.loop-count.count - 1 in
    let at : slice_get items age ≡ Some c.in-Some.entry.now = sym c.in-Some.ensures in
    sym (has_at items c.args.page age (got items age c.in-Some.entry.now c.in-Some.entry.now at).0
    (page_got items age c.in-Some.entry.now at ∙ (sym c.number.ensures.value ∙ c.if-number-page.true)))

pub returns-in-None-clause-some : goal.returns-in-None-clause-some
returns-in-None-clause-some c =
    let items = c.args.ring.now.items in
    let past : length items ≤ c.loop-count.count - 1 = not_past items (c.loop-count.count - 1) (sym c.in-None.ensures) in
    absurd (omega (arith, past, c.loop-count.invariant.within, length_pages items, c.loop-count-test.true))

pub loop-count-preserved : goal.loop-count-preserved
loop-count-preserved c =
    let items = c.args.ring.now.items in
    let pages = cached_pages items in
    let age = c.loop-count.count - 1 in
    let at : slice_get items age ≡ Some c.in-Some.entry.now = sym c.in-Some.ensures in
    let within : age < length pages = omega (arith, (got items age c.in-Some.entry.now c.in-Some.entry.now at).0, length_pages items) in
    let leads = c.older-count.ensures pages c.requires.indexed within in
    let hashes = length c.args.index.now.newest.items in
    let older : (k : ℕ) → k < length pages → slice_index pages k ≡ c.args.page → k < age =
    λ k below is.
    let before = c.loop-count.invariant.past k below is in
    let other : k ≡ age → ⊥ =
    λ e. c.if-number-page.false (c.number.ensures.value ∙ (sym (page_got items age c.in-Some.entry.now at) ∙ (ap (slice_index pages) (sym e) ∙ is))) in
    omega (arith, before, other) in
    let here : (k : ℕ) → k < length pages → slice_index pages k ≡ c.args.page → hash_of hashes (slice_index pages age) ≡ hash_of hashes c.args.page =
    λ k below is. c.loop-count.invariant.own age k (omega (arith, c.loop-count-test.true)) below is in
    record {
      within = omega (arith, leads.within, within);
      past = λ k below is. leads.past k (older k below is) (ap (hash_of hashes) is ∙ sym (here k below is));
      own = λ last k counted below is. leads.own last k counted (older k below is) (ap (hash_of hashes) is ∙ sym (here k below is)) ∙ here k below is;
    }

pub returns-clause-some : goal.returns-clause-some
returns-clause-some c =
    let items = c.args.ring.now.items in
    sym (none_at items c.args.page
    (λ age below is. let before = c.loop-count.invariant.past age (omega (arith, below, length_pages items)) is in
    omega (arith, before, c.loop-count-test.false)))
