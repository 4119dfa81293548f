-- What a handle needs that may go to another thread: it owns what a pointer leads to, which names no thread.
use base.Fraction.{full_share}
use base.Shift.{Keyless}
use denote.Exit.{Exit, unchanged, leaves, hidden, under}
use denote.Param.Send.{IsSend, Quiet, part_keyless}
use denote.RattleType.{RattleType}
use denote.RawPtr.{Ptr, block_ptr, null_ptr, lies_at}

pub lies : (R : RattleType) → IsSend R → (p : Ptr) (x : R.Denot) → Keyless (lies_at R full_share p x)
lies R s (block_ptr b o) x = part_keyless R s full_share x b o
lies R s null_ptr x = tt

pub quiet : {D X : Type 0} (f : D → X) (e : Exit X) → Quiet e → Quiet (hidden (under f e))
quiet f unchanged q = λ x w. tt
quiet f (leaves L l S s r₀) q = λ d. q (f d)
