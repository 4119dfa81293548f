-- The sizes of the live blocks after an answer are what the kept list says.
use Rattle.std.proofs.Common.{◌≡◌, ◌-◌, ℕ, List, [], ◌∷◌, Bool, true, false, Option, None, Some, MatchOption, option_map, slice_set, map, refl, ◌∙◌, ap}
use Rattle.std.proofs.lemmas.List.{map-append, map-set}
use Rattle.std.proofs.Math.Seq.{map-set_same}
use Rattle.std.specs.Prelude.{nat_le, if◌then◌else◌}
use Rattle.machine_model.specs.declared.answer.Answer.{Answer}
use Rattle.machine_model.specs.declared.answer.Reply.{Reply}
use Rattle.machine_model.specs.declared.answer.Reply.TheVariants.{Block as Placed, Done, Bytes, Byte, Accepted, Released}
use Rattle.machine_model.specs.declared.call.Call.{Call}
use Rattle.machine_model.specs.declared.call.Call.TheVariants.{Malloc, Calloc, Realloc, CRealloc, Free, Write, Read, Map, Unmap, Probe, SetGranularity, Reset}
use Rattle.machine_model.specs.declared.region.Region.{Region}
use Rattle.machine_model.specs.State.{State, Block, Fresh, Known, block_at}
use Rattle.machine_model.specs.Refusal.{own_align, least_align}
use Rattle.dlmalloc_chunks.specs.Request.{wanted}
use Rattle.machine_model.specs.Answer.{IsReply, IsAllowed, IsResizing, NewPages, after, all_ended, changed, known_block, new_block, new_pages, resized_block, seen_block, slots_of, with_block, with_regions}
use Rattle.heap_report.specs.Live.{block_size, sizes_of}
use Rattle.heap_recorder.specs.Sizes.{sizes_after}

-- a live block with another size
resized : (s : State) (number size address : ℕ) (n : Block → ℕ) (align : Block → ℕ) (regions : Option (List Region))
    (found : Option Block) → MatchOption found ⊥ (λ block. IsResizing s block (n block) address regions)
    → map block_size (slice_set s.blocks number (option_map (resized_block address size align) found)) ≡ slice_set (map block_size s.blocks) number size
resized s number size address n align regions None live = absurd live
resized s number size address n align regions (Some block) live = map-set block_size s.blocks number (Some (resized_block address size align block))

-- a change that keeps the size
same_size : (change : Block → Block) → ((block : Block) → (change block).size ≡ block.size) → (found : Option Block) →
    block_size (option_map change found) ≡ block_size found
same_size change keeps None = refl
same_size change keeps (Some block) = keeps block

kept : (blocks : List (Option Block)) (number : ℕ) (change : Block → Block) →
    ((block : Block) → (change block).size ≡ block.size) → map block_size (with_block blocks number change) ≡ map block_size
    blocks
kept blocks number change keeps = map-set_same block_size blocks number (option_map change (block_at blocks number)) None
    (same_size change keeps (block_at blocks number))

kept_all : (blocks : List (Option Block)) (change : Block → Block) → ((block : Block) → (change block).size ≡ block.size) →
    map block_size (map (option_map change) blocks) ≡ map block_size blocks
kept_all [] change keeps = refl
kept_all (block ∷ blocks) change keeps = (λ i. same_size change keeps block i ∷ kept_all blocks change keeps i)

-- a byte that is seen
seen_size : (at byte : ℕ) (block : Block) → (seen_block at byte block).size ≡ block.size
seen_size at byte block = go (nat_le block.address at)
  where
    go : (b : Bool) → (if b then known_block (at - block.address) (byte ∷ []) block else block).size ≡ block.size
    go true = refl
    go false = refl

-- no block is live
ended : (blocks : List (Option Block)) → map block_size (all_ended blocks) ≡ map (λ (size : ℕ). 0) (map block_size blocks)
ended [] = refl
ended (block ∷ blocks) = ap (λ (sizes : List ℕ). 0 ∷ sizes) (ended blocks)

-- what the reply alone changes
reply_sizes : (s : State) (call : Call) (reply : Reply) (regions : Option (List Region)) → IsReply s call reply regions →
    sizes_of (changed s call reply) ≡ sizes_after (sizes_of s) call reply
reply_sizes s (Malloc size align) (Placed number address) regions is = map-append block_size s.blocks (new_block address size align Fresh ∷ [])
reply_sizes s (Calloc size align) (Placed number address) regions is = map-append block_size s.blocks (new_block address size align (Known 0) ∷ [])
reply_sizes s (Realloc number size) (Placed given address) regions is =
    resized s number size address (λ block. wanted size (own_align block)) own_align regions (block_at s.blocks number)
    is.1.1
reply_sizes s (CRealloc number size) (Placed given address) regions is =
    resized s number size address (λ block. wanted size (least_align block)) least_align regions (block_at s.blocks number)
    is.1.1
reply_sizes s (Free number) Done regions is = map-set block_size s.blocks number None
reply_sizes s (Write number offset bytes) Done regions is = kept s.blocks number (known_block offset bytes) (λ block. refl)
reply_sizes s (Read number offset count) (Bytes bytes) regions is = kept s.blocks number (known_block offset bytes) (λ block. refl)
reply_sizes s (Map start pages rights) Done regions is = refl
reply_sizes s (Unmap start pages) Done regions is = refl
reply_sizes s (Probe at access user) (Byte byte) regions is = kept_all s.blocks (seen_block at byte) (seen_size at byte)
reply_sizes s (SetGranularity granularity) (Accepted true) regions is = refl
reply_sizes s (SetGranularity granularity) (Accepted false) regions is = refl
reply_sizes s Reset (Released bytes) regions is = ended s.blocks
reply_sizes s call reply regions is = refl

-- regions change no block
regions_sizes : (s : State) (regions : Option (List Region)) (new : Option NewPages) (slots : List ℕ) → sizes_of (with_regions s regions new slots) ≡ sizes_of s
regions_sizes s None None slots = refl
regions_sizes s None (Some new) slots = refl
regions_sizes s (Some list) None slots = refl
regions_sizes s (Some list) (Some new) slots = refl

pub kept_sizes : (s : State) (call : Call) (answer : Answer) → IsAllowed s call answer →
    sizes_of (after s call answer) ≡ sizes_after (sizes_of s) call answer.reply
kept_sizes s call answer allowed =
    regions_sizes (changed s call answer.reply) answer.regions (new_pages s call answer.reply answer.regions) (slots_of answer.large)
    ∙ reply_sizes s call answer.reply answer.regions allowed.reply
