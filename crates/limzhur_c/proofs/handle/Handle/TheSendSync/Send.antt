-- A handle may go to another thread: what it owns, the heap with its words, marks and table, names no thread.
use denote.Builtin.{RawPtr}
use denote.Param.Send.{IsSend, owning_send, struct_send, sendable}
use denote.Signature.{static_lft}
use denote.Struct.Owning.{shape, fields, to}
use denote.Struct.Struct.{exits_of}
use Rattle.checked_heap.specs.contracts.checked.CheckedHeap as heap
use Rattle.checked_heap.proofs.checked.CheckedHeap.TheSendSync.{the_send}
use Rattle.limzhur_c.proofs.Sending.{lies, quiet}
use Rattle.limzhur_c.specs.contracts.handle.Handle.{the_row, the_type}

pub send : IsSend the_row
send =
    let O = the_type in let pointer : IsSend RawPtr = search sendable in
    owning_send O (pointer, tt) (λ h. lies (heap.the_row static_lft) (the_send static_lft) h.room h.heap)
    (λ k. quiet (to O) (exits_of k (fields O)) ((struct_send (shape O) (pointer, tt)).leaving k))
