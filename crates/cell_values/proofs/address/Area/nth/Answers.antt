use Rattle.std.proofs.Common.{◌≡◌, ◌<◌, ◌*◌, ◌/◌, arith, sym, subst}
use Rattle.cell_values.specs.Areas.{height, width}
use Rattle.cell_values.proofs.Walking.{row_within, drop_walk_at, length-walk}
use Rattle.cell_values.proofs.address.Area.nth.Goals as goal

pub overflow_add-result : goal.overflow_add-result
unfolding height
overflow_add-result c =
    let w : c.columns-columns.result ≡ width c.args.self.now = c.columns-columns.ensures.same in
    let l : c.args.n < height c.args.self.now * width c.args.self.now = subst (λ z. c.args.n < z) (length-walk c.args.self.now) c.requires.within in
    let m : c.args.n < height c.args.self.now * c.columns-columns.result = subst (λ z. c.args.n < height c.args.self.now * z) (sym w) l in
    let h : c.args.n / c.columns-columns.result < height c.args.self.now = row_within c.args.n c.columns-columns.result (height c.args.self.now) c.columns-columns.ensures.some m in
    omega (arith, c.requires.area.bottom_to, c.requires.area.top_to)

pub returns : goal.returns
returns c = drop_walk_at c.args.self.now c.args.n c.columns-columns.result c.columns-columns.ensures.same c.columns-columns.ensures.some c.requires.within
