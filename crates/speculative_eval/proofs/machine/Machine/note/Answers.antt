use Rattle.std.proofs.Common.{subst}
use Rattle.claim_core.specs.declared.event.Event.{Event}
use Rattle.speculative_eval.specs.Machines.{CanNote}
use Rattle.speculative_eval.proofs.Becoming.{comes, publishes_known, stores}
use Rattle.speculative_eval.proofs.machine.Machine.note.Goals as goal

pub note_word-requires : goal.note_word-requires
note_word-requires c = comes c.args.self.now (Event.Look c.in-Look.cell c.in-Look.seen) (subst (CanNote c.args.self.now) c.in-Look.is c.requires)

pub note_claim-requires : goal.note_claim-requires
note_claim-requires c = comes c.args.self.now (Event.Claim c.in-Claim.cell c.in-Claim.answer) (subst (CanNote c.args.self.now) c.in-Claim.is c.requires)

pub note_stored-requires : goal.note_stored-requires
note_stored-requires c = stores c.args.self.now c.in-StoreValue.rec c.in-StoreValue.k c.in-StoreValue.word (subst (CanNote c.args.self.now) c.in-StoreValue.is c.requires)

pub note_publish-requires : goal.note_publish-requires
note_publish-requires c = publishes_known c.args.self.now c.in-Publish.cell c.in-Publish.rec c.in-Publish.answer (subst (CanNote c.args.self.now) c.in-Publish.is c.requires)

pub note_tag-requires : goal.note_tag-requires
note_tag-requires c = comes c.args.self.now (Event.LoadTag c.in-LoadTag.rec c.in-LoadTag.word) (subst (CanNote c.args.self.now) c.in-LoadTag.is c.requires)

pub note_value-requires : goal.note_value-requires
note_value-requires c = comes c.args.self.now (Event.LoadValue c.in-LoadValue.rec c.in-LoadValue.k c.in-LoadValue.word) (subst (CanNote c.args.self.now) c.in-LoadValue.is c.requires)
