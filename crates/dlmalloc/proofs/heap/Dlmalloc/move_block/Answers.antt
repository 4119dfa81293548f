use Rattle.dlmalloc.proofs.Names.{ℕ, ◌-◌, Bool, refl, ◌∙◌, ap, arith, padded, IsFreed, state_of, asked, words_in, pass_steps}
use Rattle.dlmalloc.proofs.Resizing.InPlaceOrElsewhere.{from_words, to_words, words_apart, copied, copied_heap, copied_binned, copied_block, moved_block, moved_contents, moved_kept}
use Rattle.dlmalloc.proofs.Frees.Whole.{by_rules, rules_found}
use Rattle.dlmalloc.proofs.Returns.PassSteps.{found_pass}
use Rattle.dlmalloc.proofs.heap.Dlmalloc.move_block.Goals as goal

pub copy_counted-requires : goal.copy_counted-requires
copy_counted-requires g c =
    let count = c.words_in.ensures ∙ ap words_in c.min.ensures in
    let sound = c.requires.intact.sound in let block = c.requires.block.1 in let handed = c.in-Ok.ensures.allocated.handed in
    record {
      from = from_words c.args.held sound block c.requires.held handed count;
      to = to_words c.args.held sound block c.requires.held handed count;
      apart = words_apart c.args.held sound block c.requires.held handed count;
    }

pub free_and_settle-requires : goal.free_and_settle-requires
free_and_settle-requires g c =
    let count = c.words_in.ensures ∙ ap words_in c.min.ensures in let e = c.copy_counted.ensures in
    let sound = c.requires.intact.sound in let block = c.requires.block.1 in let handed = c.in-Ok.ensures.allocated.handed in
    record {
      intact = record {
        sound = (copied_heap c.args.held sound block c.requires.held handed count e.regions e.follows e.copied).sound;
        linked = copied_binned c.args.held sound block c.requires.held handed count e.regions e.follows e.copied
            c.law_index_stays.ensures c.malloc.ensures.intact.linked;
      };
      block = (block.extent.size - 8, copied_block c.args.held sound block c.requires.held handed count e.regions e.follows e.copied);
    }

pub returns-in-Ok-clause-elsewhere : goal.returns-in-Ok-clause-elsewhere
returns-in-Ok-clause-elsewhere g c =
    let A = g.A.Allocator in let middle = c.malloc.new.self in let filled = record middle { system = c.copy_counted.new.self } in
    let count = c.words_in.ensures ∙ ap words_in c.min.ensures in let e = c.copy_counted.ensures in
    let sound = c.requires.intact.sound in let block = c.requires.block.1 in let handed = c.in-Ok.ensures.allocated.handed in
    let IsFreedBy = λ (frees parts : Bool) (unit : ℕ).
    IsFreed g.A.Links.regions g.A.Links.word g.A.Links.follows frees parts unit filled c.args.ptr c.free_and_settle.new.self in
    let freed = by_rules A.zeros A.frees A.parts A.unit (rules_found A.zeros A.frees A.parts A.unit g.met.A.Allocator.fixed handed) IsFreedBy
    (by_rules A.zeros A.frees A.parts A.unit (g.met.A.Allocator.fixed middle.system filled.system _ e.follows) IsFreedBy c.free_and_settle.ensures.freed) in
    record {
      middle = middle;
      served = c.in-Ok.ensures.allocated.served;
      filled = filled;
      copied = copied c.args.held sound block c.requires.held handed count e.regions e.follows e.copied;
      same = copied_heap c.args.held sound block c.requires.held handed count e.regions e.follows e.copied;
      index = λ b. (copied_binned c.args.held sound block c.requires.held handed count e.regions e.follows e.copied c.law_index_stays.ensures b, λ n. refl);
      freed = freed;
      block = moved_block c.args.held sound block c.requires.held handed count e.regions e.follows e.copied freed;
      contents = moved_contents c.args.held sound block c.requires.held handed count e.regions e.follows e.copied freed;
      kept = moved_kept c.args.held sound block c.requires.held handed count e.regions e.follows e.copied freed;
    }

pub returns-in-Ok-clause-counted : goal.returns-in-Ok-clause-counted
returns-in-Ok-clause-counted g c = λ some.
    let old = c.args.self.now in let middle = c.malloc.new.self in let handed = c.in-Ok.ensures.allocated.handed in
    let count = c.words_in.ensures ∙ ap words_in c.min.ensures in let e = c.copy_counted.ensures in
    let same = copied_heap c.args.held c.requires.intact.sound c.requires.block.1 c.requires.held handed count e.regions e.follows e.copied in
    let segments = ap pass_steps same.state ∙ found_pass g.A.Links.follows g.A.Links.regions old.system (state_of g.A.Links.word old)
    (padded (asked c.args.size c.args.align)) middle.system (state_of g.A.Links.word middle) handed.found some in
    let cut = c.malloc.ensures.counted some in let words = c.copy_counted.ensures.counted in
    let freed = c.free_and_settle.ensures.counted in
    omega arith
