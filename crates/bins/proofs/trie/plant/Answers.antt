use Rattle.bins.proofs.RootLeaf.{r_own, r_trie, r_words}
use Rattle.bins.proofs.trie.plant.Goals as goal

pub set_links-requires : goal.set_links-requires
set_links-requires g c = let r = c.requires.held in r_own r.1.0 r.1.1 c.requires.large

pub set_node-requires : goal.set_node-requires
set_node-requires g c = let r = c.requires.held in rw c.set_links.ensures.work.regions (r_own r.1.0 r.1.1 c.requires.large)

pub returns-then-root-eq0-clause-gained : goal.returns-then-root-eq0-clause-gained
returns-then-root-eq0-clause-gained g c = λ index held fresh.
    let node = rw c.set_links.ensures.work.regions at c.set_node.ensures.node in
    let links = c.set_links.ensures.links in let r = c.requires in
    record {
      trie = r_trie held fresh r.large c.if-root-eq0.true r.deep r.range.above r.range.below links node;
      words = r_words held fresh r.large c.if-root-eq0.true r.deep r.range.above r.range.below links node;
    }

pub insert_below-requires-clause-held : goal.insert_below-requires-clause-held
insert_below-requires-clause-held g c = let r = c.requires.held in (r.0, (c.args.parent, r.1))

pub returns-clause-gained : goal.returns-clause-gained
returns-clause-gained g c = λ index held fresh. c.insert_below.ensures.gained index c.args.parent held fresh
