-- What is before an aligned place is freed, and then what is after it.
use Rattle.dlmalloc.proofs.Names.{ℕ, List, Grant, Event, HeapState, HasOneMore, HasSameOthers, HasOneMoved, KeepsOthers, state_of, IsSound, IsTurned, Dlmalloc}
use Rattle.dlmalloc.proofs.Blocks.WordsKept.{blocks_law, keeps_on}

pub moved_on : {first second third : HeapState} {from to : ℕ} → HasOneMoved first second from to →
    HasSameOthers second third to to → HasOneMoved first third from to
moved_on one other = record {
  kept = λ used is away there. let beside = one.apart used is away there in other.kept used is beside beside (one.kept used is away there);
  only = λ used is beside there. one.only used is beside (other.only used is beside beside there);
  apart = one.apart;
  gone = λ used is beside there. one.gone used is beside (other.only used is beside beside there);
}

pub more_on : {first second third : HeapState} {from to : ℕ} → HasOneMore first second from → HasOneMoved second third from to → HasOneMore first third to
more_on more moved = record {
  kept = λ used is there. moved.kept used is (more.new used is there) (more.kept used is there);
  only = λ used is there other. more.only used is (moved.only used is other there) (moved.gone used is other there);
  new = λ used is there. moved.apart used is (more.new used is there) (more.kept used is there);
}

-- the others keep their words when the lead is freed, and then the tail
pub kept_on : {A : Type 0} {regions : A → List Grant} {word : A → ℕ → ℕ} {follows : A → List Event → A → Type 0}
    (old : Dlmalloc A) {middle new : Dlmalloc A} {from to : ℕ} → HasOneMoved (state_of word old) (state_of word middle) from to →
    KeepsOthers (state_of word old) from (word old.system) (word middle.system) → IsSound regions word middle → HasSameOthers (state_of word middle)
    (state_of word new) to to → IsTurned regions word follows middle new → KeepsOthers (state_of word old) from (word old.system) (word new.system)
kept_on old moved kept sound same after blocks others =
    keeps_on (kept blocks others) (blocks_law sound after.sound after.words blocks (λ used there is.
    let o = others used is there in let beside = moved.apart used is o.0 o.1 in
    let now = moved.kept used is o.0 o.1 in (now, same.kept used is beside beside now)))
