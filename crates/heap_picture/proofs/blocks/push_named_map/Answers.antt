use Rattle.std.proofs.Common.{◌≡◌, ◌++◌, ◌∙◌, ℕ, List, ap, length, string_bytes}
use Rattle.std.specs.Prelude.{Option}
use Rattle.std.proofs.lemmas.Result.{on_ok_weaker}
use Rattle.heap_history.specs.declared.history.Stay.{Stay}
use Rattle.heap_map.specs.Blocks.{named_at}
use Rattle.heap_map.specs.Map.{map_text}
use Rattle.heap_map.specs.declared.blocks.NamedBlock.{NamedBlock}
use Rattle.heap_picture.specs.Blocks.{block_at_end, blocks_at_end}
use Rattle.heap_picture.proofs.blocks.push_named_map.Goals as goal

pub returns : goal.returns
returns c =
    let history = c.args.history.now in
    let left : (address : ℕ) → named_at c.in_ok-blocks.blocks address ≡ blocks_at_end history address = λ address.
    c.in_ok-blocks.ensures address
    ∙ ap (λ (n : ℕ). block_at_end n c.as_slice.result.now address) c.len.ensures
    ∙ ap (λ (stays : List Stay). block_at_end (length history.moments) stays address) c.as_slice.ensures in
    on_ok_weaker c.push_map.result (λ put.
    put ∙ ap (λ (blocks : ℕ → Option NamedBlock). string_bytes c.args.out.now ++ map_text blocks c.args.live c.args.peak
    c.args.extents.now) (λ i address. left address i)) c.push_map.ensures
