use Rattle.std.proofs.Common.{OnOk, IfErr, sym, subst}
use Rattle.std.proofs.lemmas.Result.{IfErr-weaker}
use Rattle.workbook_core.specs.Edits.{IsPutFault, IsCopyFault}
use Rattle.recalculation.specs.declared.edit.Edit.{Edit}
use Rattle.recalculation.specs.Edits.{IsEdited, IsFaultOf}
use Rattle.recalculation.proofs.Edited.{put_edited, put_faults, clear_edited, copy_edited, copy_faults}
use Rattle.recalculation.proofs.book.change.Goals as goal

pub returns-in-Put-clause-ok : goal.returns-in-Put-clause-ok
returns-in-Put-clause-ok c = subst (λ e. OnOk c.put.result (IsEdited c.args.book.now e c.put.new.self)) (sym c.in-Put.is)
    (put_edited c.put.result c.args.book.now c.put.new.self c.in-Put.at c.in-Put.raw c.known.ensures c.put.ensures.ok c.put.ensures.texts)

pub returns-in-Put-clause-fault : goal.returns-in-Put-clause-fault
returns-in-Put-clause-fault c = subst (λ e. IfErr c.put.result (IsFaultOf c.args.book.now e)) (sym c.in-Put.is)
    (IfErr-weaker c.put.result (IsPutFault c.args.book.now.names c.args.book.now.book.texts c.args.book.now.book.cells c.in-Put.at c.in-Put.raw) (IsFaultOf c.args.book.now (Edit.Put c.in-Put.at c.in-Put.raw))
    (put_faults c.args.book.now c.in-Put.at c.in-Put.raw) c.put.ensures.fault)

pub returns-in-Clear-clause-ok : goal.returns-in-Clear-clause-ok
returns-in-Clear-clause-ok c = subst (λ e. IsEdited c.args.book.now e c.clear.new.self) (sym c.in-Clear.is)
    (clear_edited c.args.book.now c.clear.new.self c.in-Clear.at c.known.ensures c.clear.ensures.applied c.clear.ensures.texts)

pub returns-in-Copy-clause-ok : goal.returns-in-Copy-clause-ok
returns-in-Copy-clause-ok c = subst (λ e. OnOk c.copy.result (IsEdited c.args.book.now e c.copy.new.self)) (sym c.in-Copy.is)
    (copy_edited c.copy.result c.args.book.now c.copy.new.self c.in-Copy.from c.in-Copy.to c.known.ensures c.copy.ensures.texts c.copy.ensures.ok)

pub returns-in-Copy-clause-fault : goal.returns-in-Copy-clause-fault
returns-in-Copy-clause-fault c = subst (λ e. IfErr c.copy.result (IsFaultOf c.args.book.now e)) (sym c.in-Copy.is)
    (IfErr-weaker c.copy.result (IsCopyFault c.args.book.now.book.cells c.in-Copy.from c.in-Copy.to) (IsFaultOf c.args.book.now (Edit.Copy c.in-Copy.from c.in-Copy.to))
    (copy_faults c.args.book.now c.in-Copy.from c.in-Copy.to) c.copy.ensures.fault)
