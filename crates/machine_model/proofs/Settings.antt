-- The settings of a heap: another granularity, another rate. No block and no region changes.
use Rattle.std.proofs.Common.{ℕ, ◌≤◌, Bool, true, false, None, IsTrue, refl}
use Rattle.std.specs.Prelude.{◌↔◌, if◌then◌else◌}
use Rattle.std.specs.Int.{IsPowerOfTwo}
use Rattle.machine_model.specs.declared.call.Call.TheVariants.{SetRate, SetGranularity}
use Rattle.machine_model.specs.declared.answer.Reply.TheVariants.{Done, Accepted}
use Rattle.machine_model.specs.State.{State}
use Rattle.machine_model.specs.Run.{IsGood}
use Rattle.machine_model.specs.Machine.{Seen, Stands, IsStep}

good_set : (s : State) (granularity : ℕ) → IsGood s → IsGood (record s { granularity = granularity })
good_set s granularity good = record {
  each = good.each;
  apart = good.apart;
  heap_order = good.heap_order;
  user_order = good.user_order;
  heap = good.heap;
  users = good.users;
  frames = good.frames;
  slots = good.slots;
  are_slots = good.are_slots;
  no_slot_twice = good.no_slot_twice;
}

stands_set : (m : Seen) (s : State) (granularity : ℕ) → Stands m s → Stands (record m { granularity = granularity }) (record s { granularity = granularity })
stands_set m s granularity stands = record {
  root = stands.root;
  tree = stands.tree;
  free_frames = stands.free_frames;
  table_count = stands.table_count;
  pages_found = stands.pages_found;
  tables_met = stands.tables_met;
  larges_met = stands.larges_met;
  regions = stands.regions;
  blocks = stands.blocks;
  base = stands.base;
  pages = stands.pages;
  granularity = refl;
  frames = stands.frames;
  bytes = stands.bytes;
  zeros = stands.zeros;
}

-- a granularity is set if it is accepted
pub step_granularity : (m : Seen) (s : State) (granularity : ℕ) (accepted : Bool) → IsGood s → Stands m s →
    (IsTrue accepted ↔ (IsPowerOfTwo granularity × (16 ≤ granularity))) →
    IsStep s (SetGranularity granularity) (record { reply = Accepted accepted; regions = None; large = None })
    (record m { granularity = if accepted then granularity else m.granularity })
step_granularity m s granularity true good stands is = record {
  allowed = record { reply = (refl, (refl, is)); listed = tt; large = tt };
  good = good_set s granularity good;
  stands = stands_set m s granularity stands;
}
step_granularity m s granularity false good stands is = record {
  allowed = record { reply = (refl, (refl, is)); listed = tt; large = tt };
  good = good;
  stands = stands;
}

-- the state has no rate
pub step_rate : (m : Seen) (s : State) (rate : ℕ) → IsGood s → Stands m s → IsStep s (SetRate rate) (record { reply = Done; regions = None; large = None }) m
step_rate m s rate good stands = record {
  allowed = record { reply = (refl, refl); listed = tt; large = tt };
  good = good;
  stands = stands;
}
