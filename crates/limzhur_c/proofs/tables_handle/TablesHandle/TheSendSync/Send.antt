-- A handle may go to another thread: what it owns, the tables with the words of their area, names no thread.
use denote.Builtin.{RawPtr}
use denote.Param.Send.{IsSend, owning_send, struct_send, sendable}
use denote.Signature.{static_lft}
use denote.Struct.Owning.{shape, fields, to}
use denote.Struct.Struct.{exits_of}
use Rattle.kernel_tables.specs.contracts.tables.Tables as tables
use Rattle.kernel_tables.proofs.tables.Tables.TheSendSync.{the_send}
use Rattle.limzhur_c.proofs.Sending.{lies, quiet}
use Rattle.limzhur_c.specs.contracts.tables_handle.TablesHandle.{the_row, the_type}

pub send : IsSend the_row
send =
    let O = the_type in let pointer : IsSend RawPtr = search sendable in
    owning_send O (pointer, tt) (λ h. lies (tables.the_row static_lft) (the_send static_lft) h.room h.tables)
    (λ k. quiet (to O) (exits_of k (fields O)) ((struct_send (shape O) (pointer, tt)).leaving k))
