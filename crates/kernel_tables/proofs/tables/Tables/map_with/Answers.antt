use Rattle.std.proofs.Common.{◌≡◌, false, not, ◌&&◌, ap, sym, subst, ◌∙◌, arith}
use Rattle.paging_core.specs.Pool.{is_frame_free}
use Rattle.kernel_tables.specs.Changes.{IsPageMapped}
use Rattle.kernel_tables.proofs.Changed.{only_seen, other_page, page_flush, made}
use Rattle.paging_core.specs.WalkEnd.{IsEntryOf}
use Rattle.kernel_tables.proofs.Ends.{nothing_missing}
use Rattle.paging_core.specs.Area.{Whole, in_area}
use Rattle.kernel_tables.specs.TableState.{TableState, sees_area}
use Rattle.kernel_tables.proofs.Sound.{added_outside, no_fault}
use Rattle.kernel_tables.proofs.tables.Tables.map_with.Goals as goal
use Rattle.kernel_tables.proofs.tables.Tables.map_with.Goals.{In-None}

pub invariant_of-self : goal.invariant_of-self
invariant_of-self c =
    let out : (c.self.inside.shared && not c.args.bits.user) ≡ false → in_area c.self.inside.memory.area c.args.frame ≡ false =
    λ kept. ap (λ (s : TableState). in_area s.area c.args.frame) c.self.view_is
    ∙ (no_fault c.args.self.now c.args.page c.args.frame c.args.bits.user (sym c.in-None.ensures.fault)).outside (sym (ap (λ (s : TableState). sees_area s c.args.bits.user) c.self.view_is) ∙ kept) in
    let used : c.self.inside.memory.area ≡ Whole → is_frame_free c.self.inside.free c.args.frame ≡ false = λ whole. absurd (c.self.invariant.part whole) in
    let added = (c.map_at.ensures.mapped c.self.inside.free c.self.invariant.tree used).added in
    let size = added.size in
    record {
      root_in = omega (arith, c.self.invariant.root_in, size);
      tree = (c.map_at.ensures.mapped c.self.inside.free c.self.invariant.tree used).tree;
      known = c.map_at.ensures.known c.self.inside.free c.self.invariant.known;
      apart = λ page place is kept.
          ap (λ a. in_area a place.frame) c.map_at.ensures.area
          ∙ added_outside c.self.inside.shared c.self.inside.memory.area c.self.inside.memory.words c.map_at.new.frames.words c.self.inside.free
          c.self.inside.free c.self.inside.root c.args.page c.args.frame c.args.bits
          added out c.self.invariant.apart page place is kept;
      part = λ whole. c.self.invariant.part (sym c.map_at.ensures.area ∙ whole);
    }

pub map_fault-requires-clause-missing : goal.map_fault-requires-clause-missing
map_fault-requires-clause-missing c =
    nothing_missing c.args.self.now c.args.page c.in-Entry-default-None.entry.table c.in-Entry-default-None.entry.index
    (subst (λ (s : TableState). IsEntryOf s.words s.root c.args.page c.in-Entry-default-None.entry.table
    c.in-Entry-default-None.entry.index) c.self.view_is c.in-Entry-default-None.ensures.end.0)

used : (c : goal.In-None) → c.self.inside.memory.area ≡ Whole → is_frame_free c.self.inside.free c.args.frame ≡ false
used c = λ whole. absurd (c.self.invariant.part whole)

pub returns-in-None-clause-mapped : goal.returns-in-None-clause-mapped
returns-in-None-clause-mapped c =
    let added = (c.map_at.ensures.mapped c.self.inside.free c.self.invariant.tree (used (goal.at.returns-in-None-clause-mapped c).In-None)).added in
    subst (λ (s : TableState). IsPageMapped s (record {
      words = c.map_at.new.frames.words;
      area = c.map_at.new.frames.area;
      root = c.self.inside.root;
      free = c.self.inside.free;
      shared = c.self.inside.shared;
    }) c.args.page c.args.frame c.args.bits)
    c.self.view_is (record { mapped = added.there; added = added })

pub returns-in-None-map_fault-clause-mapped : goal.returns-in-None-map_fault-clause-mapped
returns-in-None-map_fault-clause-mapped c =
    let added = c.map_page.ensures.put.added in
    subst (λ (s : TableState). IsPageMapped s (record {
      words = c.map_page.new.frames.words;
      area =
          c.map_page.new.frames.area;
      root = c.self.inside.root;
      free = c.map_page.new.pool;
      shared = c.self.inside.shared;
    }) c.args.page c.args.frame
    c.args.bits)
    c.self.view_is (record { mapped = added.there; added = added })

pub invariant_of-self-in-None-map_fault : goal.invariant_of-self-in-None-map_fault
invariant_of-self-in-None-map_fault c =
    let out : (c.self.inside.shared && not c.args.bits.user) ≡ false → in_area c.self.inside.memory.area c.args.frame ≡ false =
    λ kept. ap (λ (s : TableState). in_area s.area c.args.frame) c.self.view_is
    ∙ (no_fault c.args.self.now c.args.page c.args.frame c.args.bits.user (sym c.in-None-map_fault.ensures.fault)).outside (sym (ap (λ (s : TableState). sees_area s c.args.bits.user) c.self.view_is) ∙ kept) in
    let added = c.map_page.ensures.put.added in
    let size = added.size in
    record {
      root_in = omega (arith, c.self.invariant.root_in, size);
      tree = c.map_page.ensures.put.standing.tree;
      known = c.map_page.ensures.put.standing.known;
      apart = λ page place is kept.
          ap (λ a. in_area a place.frame) c.map_page.ensures.put.same_area
          ∙ added_outside c.self.inside.shared c.self.inside.memory.area c.self.inside.memory.words c.map_page.new.frames.words
          c.self.inside.free c.map_page.new.pool c.self.inside.root c.args.page c.args.frame c.args.bits
          added out c.self.invariant.apart page place is kept;
      part = λ whole. c.self.invariant.part (sym c.map_page.ensures.put.same_area ∙ whole);
    }

pub returns-in-None-clause-change : goal.returns-in-None-clause-change
returns-in-None-clause-change c =
    let used = used (goal.at.returns-in-None-clause-change c).In-None in
    let mapped = c.map_at.ensures.mapped c.self.inside.free c.self.invariant.tree used in
    let only = only_seen c.self.view_is c.map_at.ensures.area mapped.added.size mapped.added.stayed
    (λ other canonical not. mapped.elsewhere other canonical (other_page c.args.page other not)) in
    made c.in-None.ensures.fault only
    (page_flush c.args.page (no_fault c.args.self.now c.args.page c.args.frame c.args.bits.user (sym c.in-None.ensures.fault)).unmapped only)

pub returns-in-None-map_fault-clause-change : goal.returns-in-None-map_fault-clause-change
returns-in-None-map_fault-clause-change c =
    let added = c.map_page.ensures.put.added in
    let only = only_seen c.self.view_is c.map_page.ensures.put.same_area added.size added.stayed
    (λ other canonical not. c.map_page.ensures.put.elsewhere other canonical (other_page c.args.page other not)) in
    made c.in-None-map_fault.ensures.fault only
    (page_flush c.args.page (no_fault c.args.self.now c.args.page c.args.frame c.args.bits.user (sym c.in-None-map_fault.ensures.fault)).unmapped only)
