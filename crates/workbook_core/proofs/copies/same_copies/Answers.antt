use Rattle.std.proofs.Common.{◌∙◌, sym, ap, subst, refl, get_or}
use Rattle.std.specs.Map.{keys_of}
use Rattle.cell_values.specs.declared.address.Addr.{Addr}
use Rattle.workbook_core.specs.Copies.{AreCopies}
use Rattle.workbook_core.specs.Held.{content_in}
use Rattle.workbook_core.proofs.Copied.{keys_more, plain_more}
use Rattle.workbook_core.proofs.copies.same_copies.Goals as goal

abbrev no_address : Addr
no_address = record { sheet = 0; row = 0; col = 0 }

pub loop-at-preserved : goal.loop-at-preserved
loop-at-preserved c =
    let at : Addr = get_or c.args.addresses.now c.loop-at.at-index no_address in
    record {
      keys = ap keys_of c.in_ok-push.ensures.items ∙ keys_more c.loop-at.copies.items at c.args.content c.args.addresses.now c.loop-at.at-index no_address c.loop-at-test.true c.loop-at.invariant.keys refl;
      copies = subst (AreCopies c.args.pool.now (content_in c.args.pool.now c.args.content)) (sym c.in_ok-push.ensures.items) (plain_more c.args.pool.now c.args.content c.loop-at.copies.items at c.requires c.loop-at.invariant.copies);
    }
