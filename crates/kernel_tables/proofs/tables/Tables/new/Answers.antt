use Rattle.std.proofs.Common.{ℕ, List, ◌+◌, ◌/◌, length, ap, ◌∙◌, refl, arith}
use Rattle.paging_core.specs.Area.{AreaWords}
use Rattle.paging_core.specs.Memory.{word_at}
use Rattle.paging_core.specs.Pool.{free_count}
use Rattle.paging_core.proofs.Ahead.{ahead_left}
use Rattle.paging_core.proofs.Padded.{count_padded}
use Rattle.paging_core.proofs.Words.{word_at_cleared_other}
use Rattle.kernel_tables.proofs.Sound.{start_known, start_some, start_root}
use Rattle.kernel_tables.proofs.tables.Tables.new.Goals as goal

pub make_root-requires-clause-known : goal.make_root-requires-clause-known
make_root-requires-clause-known c =
    let k = c.in_ok-memory.ensures.some.0 refl in
    start_known c.in_ok-memory.memory.area c.in_ok-memory.memory.words c.args.words.now c.new-free.result c.args.first
    c.args.limit (c.args.first + length c.args.words.now / 512)
    (ap (λ (m : AreaWords). m.area) c.in_ok-memory.ensures.value) (ap (λ (m : AreaWords). m.words) c.in_ok-memory.ensures.value) c.new-free.ensures
    (omega (arith, k.0)) (omega (arith, k.2))

pub unreachable-requires : goal.unreachable-requires
unreachable-requires c =
    let k = c.in_ok-memory.ensures.some.0 refl in
    start_some c.new-free.result c.args.first (c.args.first + length c.args.words.now / 512) c.new-free.ensures
    (omega (arith, k.0, k.1)) c.in_default.ensures.frame.taken.1

pub returns-clause-begun : goal.returns-clause-begun
returns-clause-begun c =
    let k = c.in_ok-memory.ensures.some.0 refl in
    let n = count_padded c.args.words.now c.args.first c.args.limit (omega (arith, k.0, k.2)) in
    record {
      empty = c.in-Some.ensures.made.unmapped;
      root = start_root c.new-free.result c.args.first (c.args.first + length c.args.words.now / 512) c.in-Some.root c.new-free.ensures
          (omega (arith, k.0, k.1)) c.in-Some.ensures.frame.taken.0 c.in-Some.ensures.frame.lowest;
      area = c.in-Some.ensures.area ∙ ap (λ (m : AreaWords). m.area) c.in_ok-memory.ensures.value;
      left = c.in-Some.ensures.frame.count ∙ (ap free_count c.new-free.ensures ∙ ahead_left (length c.args.words.now / 512) c.args.first
          (c.args.first + length c.args.words.now / 512) refl);
      hidden = refl;
      limit_is = ap (λ n. n / 512) (c.in-Some.ensures.made.size ∙ ap (λ (m : AreaWords). length m.words) c.in_ok-memory.ensures.value) ∙ n;
    }

pub returns-clause-others : goal.returns-clause-others
returns-clause-others c = λ frame index lt ne.
    let k = c.in_ok-memory.ensures.some.0 refl in
    let root = start_root c.new-free.result c.args.first (c.args.first + length c.args.words.now / 512) c.in-Some.root c.new-free.ensures
    (omega (arith, k.0, k.1)) c.in-Some.ensures.frame.taken.0 c.in-Some.ensures.frame.lowest in
    let below = c.in-Some.ensures.made.below in
    let size = c.in-Some.ensures.made.size in
    ap (λ (ws : List ℕ). word_at ws frame index) c.in-Some.ensures.words
    ∙ (word_at_cleared_other c.in_ok-memory.memory.words c.in-Some.root frame index (omega (arith, below, size)) lt (λ e. ne (e ∙ root))
    ∙ ap (λ (m : AreaWords). word_at m.words frame index) c.in_ok-memory.ensures.value)
