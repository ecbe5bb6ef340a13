-- A book may go to another thread, part by part: what it shares with its snapshots may be shared between threads. So it may be
-- shared behind its lock.
use denote.RattleType.{RattleType}
use denote.Param.Send.{IsSend, IsSync, enum_send, enum_sync, plain_send, recorded_send, recorded_sync, sendable, struct_send, struct_sync, view_send}
use denote.Struct.Declared.{shape}
use denote.Enum.Declared.{shape as enum_shape}
use denote.Struct.Tuple.{TupleAt, field_at, type_at}
use mathlib.Core.List.{List, [], ◌∷◌}
use mir.Syntax.{Sym}
use Rattle.std.proofs.Crossing
use Rattle.chc_tokens.proofs.goal.Goal.TheSendSync as goal
use Rattle.chc_tokens.proofs.seeing.Seen.TheSendSync as seen
use Rattle.chc_tokens.proofs.used.Used.TheSendSync as used
use Rattle.std.proofs.option.Option.TheSendSync as option
use Rattle.std.proofs.rt.Memory.TheSendSync as memory
use Rattle.cube_forms.proofs.block.Block.TheSendSync as block
use Rattle.cube_forms.proofs.cube.Cube.TheSendSync as cube
use Rattle.cube_forms.proofs.held.Held.TheSendSync as held
use Rattle.cube_forms.proofs.lemma.Lemma.TheSendSync as lemma
use Rattle.cube_forms.proofs.table.Table.TheSendSync as table
use Rattle.derivations.proofs.facts.Facts.TheSendSync as facts
use Rattle.refutation_trees.proofs.evidence.Evidence.TheSendSync as evidence
use Rattle.refutation_trees.proofs.tree.Refutation.TheLaws.TheKnot as refutation
use Rattle.lemma_frames.proofs.frames.Frames.TheSendSync as frames
use Rattle.lin_atoms.proofs.divisor.Divisor.TheSendSync as divisor
use Rattle.lin_atoms.proofs.form.Form.TheLaws.TheKnot as form
use Rattle.lin_atoms.proofs.lin.Lin.TheSendSync as lin
use Rattle.lin_atoms.proofs.lit.Lit.TheSendSync as lit
use Rattle.model_project.proofs.projected.Projected.TheSendSync as projected
use Rattle.obligation_tree.proofs.tree.Tree.TheSendSync as tree
use Rattle.sqlite_items.proofs.boxed.Boxed.TheSendSync as boxed
use Rattle.sqlite_items.proofs.items.Items.TheSendSync as items
use Rattle.std.proofs.alloc.Global.TheSendSync as global
use Rattle.std.proofs.boxed.Box.TheSendSync as box
use Rattle.std.proofs.sync.Arc.TheSendSync as arc
use Rattle.std.proofs.sync.Condvar.TheSendSync as condvar
use Rattle.std.proofs.sync.Mutex.TheSendSync as mutex
use Rattle.std.proofs.sync.ledger.Book.TheSendSync as ledger_book
use Rattle.std.proofs.vec.Vec.TheSendSync as vec
use Rattle.step_rules.proofs.derive_step.part.DerivePart.TheSendSync as derive_part
use Rattle.step_rules.proofs.fact_step.part.FactPart.TheSendSync as fact_part
use Rattle.step_rules.proofs.open_step.part.OpenPart.TheSendSync as open_part
use Rattle.clause_form.specs.contracts.system.System.{the_row as system_row}
use Rattle.clause_index.specs.contracts.indexed.IndexedSystem.{the_row as indexed_row}
use Rattle.cube_forms.specs.contracts.held.Held.{the_row as held_row}
use Rattle.cube_forms.specs.contracts.table.Table.{the_row as table_row}
use Rattle.chc_core.specs.contracts.book.Book.{the_row as book_row}
use Rattle.chc_core.specs.contracts.entry.Entry.{the_row as entry_row}
use Rattle.chc_core.specs.contracts.parts.Parts.{the_row as parts_row}
use Rattle.step_rules.specs.contracts.step.Step as step
use Rattle.shared_book.specs.contracts.locked.Locked as Locked
use Rattle.shared_book.specs.contracts.locked.Locked.TheInside as inside
use Rattle.shared_book.specs.contracts.shared.SharedBook as SharedBook
use Rattle.shared_book.specs.declared.run.Run as Run
use Rattle.std.specs.declared.sync.ledger.Ledger as Ledger

-- what crosses of all that an entry is made of
ruleset crossings = (
  goal.the_field_send,
  goal.the_send,
  goal.the_field_sync,
  goal.the_sync,
  seen.the_field_send,
  seen.the_send,
  seen.the_field_sync,
  seen.the_sync,
  used.the_field_send,
  used.the_send,
  used.the_field_sync,
  used.the_sync,
  option.the_field_send,
  option.the_send,
  option.the_field_sync,
  option.the_sync,
  memory.the_field_send,
  memory.the_send,
  memory.the_field_sync,
  memory.the_sync,
  block.the_send,
  block.the_sync,
  cube.the_send,
  cube.the_sync,
  held.the_send,
  held.the_sync,
  lemma.the_send,
  lemma.the_sync,
  table.the_send,
  table.the_sync,
  evidence.the_field_send,
  evidence.the_send,
  evidence.the_field_sync,
  evidence.the_sync,
  divisor.the_send,
  divisor.the_sync,
  lin.the_send,
  lin.the_sync,
  lit.the_field_send,
  lit.the_send,
  lit.the_field_sync,
  lit.the_sync,
  projected.the_send,
  projected.the_sync,
  boxed.the_send,
  boxed.the_sync,
  items.the_send,
  items.the_sync,
  arc.the_send,
  arc.the_sync,
  box.the_send,
  box.the_sync,
  vec.the_send,
  vec.the_sync,
  global.the_field_send,
  global.the_send,
  global.the_field_sync,
  global.the_sync,
  derive_part.the_field_send,
  derive_part.the_send,
  derive_part.the_field_sync,
  derive_part.the_sync,
  fact_part.the_field_send,
  fact_part.the_send,
  fact_part.the_field_sync,
  fact_part.the_sync,
  open_part.the_field_send,
  open_part.the_send,
  open_part.the_field_sync,
  open_part.the_sync,
  refutation.crosses,
  form.crosses,
  Crossing.crosses,
  sendable,
)

-- each kind of step by itself: the search over all of them at once breaks off

step_field-send : IsSend (step.the_field).row
step_field-send = enum_send (enum_shape step.the_type) ((search crossings depth 60 fits 20000, tt), ((search crossings depth 60 fits 20000, tt), ((search crossings depth 60 fits 20000, tt), ((search crossings depth 60 fits 20000, tt), ((search crossings depth 60 fits 20000, tt), ((search crossings depth 60 fits 20000, tt), ((search crossings depth 60 fits 20000, tt), ((search crossings depth 60 fits 20000, tt), tt))))))))

step-send : IsSend step.the_row
step-send = recorded_send (step.the_field).row _ _ (step.the_type).to_one step_field-send

step_field-sync : IsSync (step.the_field).row
step_field-sync = enum_sync (enum_shape step.the_type) ((search crossings depth 60 fits 20000, tt), ((search crossings depth 60 fits 20000, tt), ((search crossings depth 60 fits 20000, tt), ((search crossings depth 60 fits 20000, tt), ((search crossings depth 60 fits 20000, tt), ((search crossings depth 60 fits 20000, tt), ((search crossings depth 60 fits 20000, tt), ((search crossings depth 60 fits 20000, tt), tt))))))))

step-sync : IsSync step.the_row
step-sync = recorded_sync (step.the_field).row _ _ (step.the_type).to_one step_field-sync

entry-send : IsSend entry_row
entry-send = search (step_field-send, step-send, Crossing.crosses, sendable) depth 60 fits 20000

entry-sync : IsSync entry_row
entry-sync = search (step_field-sync, step-sync, Crossing.crosses, sendable) depth 60 fits 20000

journal-send : IsSend (table_row entry_row)
journal-send = table.the_send entry_row entry-send entry-sync

system-send : IsSend system_row
system-send = search (Crossing.crosses, form.crosses, sendable) depth 60 fits 20000

system-sync : IsSync system_row
system-sync = search (Crossing.crosses, form.crosses, sendable) depth 60 fits 20000

indexed-send : IsSend indexed_row
indexed-send = search (system-send, items.the_send, vec.the_send, lit.the_send, global.the_field_send, global.the_send, Crossing.crosses, form.crosses, sendable) depth 60 fits 20000

indexed-sync : IsSync indexed_row
indexed-sync = search (system-sync, items.the_sync, vec.the_sync, lit.the_sync, global.the_field_sync, global.the_sync, Crossing.crosses, form.crosses, sendable) depth 60 fits 20000

held-send : IsSend (held_row indexed_row)
held-send = held.the_send indexed_row indexed-send indexed-sync

parts-send : IsSend parts_row
parts-send = search (frames.the_send, facts.the_send, tree.the_send, held-send, journal-send, Crossing.crosses, sendable) depth 60 fits 20000

pub book-send : IsSend book_row
book-send = search (parts-send, frames.the_send, facts.the_send, tree.the_send, held-send, journal-send, Crossing.crosses, sendable) depth 60 fits 20000

module _ (T : RattleType) (g : Run.Ghosts T.Denot) (g' : Ledger.Ghosts T.Denot) where
  -- what lies behind the lock may go to another thread
  locked-send : IsSend (Locked.the_row T g g')
  locked-send =
      view_send (inside.the_row T g g') _ _ _ _ (recorded_send (inside.the_field T g g').row _ _ (inside.the_type T g g').to_one
      (struct_send (shape (inside.the_type T g g')) (book-send, (plain_send _ _ _ _ _, (ledger_book.the_send T g', tt)))))

  pub shared-sync : IsSync (SharedBook.the_row T g g')
  unfolding locked-send
  shared-sync =
      recorded_sync (SharedBook.the_field T g g').row _ _ (SharedBook.the_type T g g').to_one
      (struct_sync (shape (SharedBook.the_type T g g')) (mutex.the_sync (Locked.the_row T g g') locked-send, (condvar.the_field_sync, tt)))

-- what holds six parts may be shared as they may
pub held-sync : (ν : Sym) (A B C D E F : RattleType) → IsSync A → IsSync B → IsSync C → IsSync D → IsSync E → IsSync F → IsSync (TupleAt ν (A ∷ B ∷ C ∷ D ∷ E ∷ F ∷ []))
held-sync ν A B C D E F a b c d e f =
    let Ts : List RattleType = A ∷ B ∷ C ∷ D ∷ E ∷ F ∷ [] in recorded_sync (field_at ν Ts).row _ _ (type_at ν Ts).to_one (struct_sync (shape (type_at ν Ts)) (a, (b, (c, (d, (e, (f, tt)))))))
