use Rattle.std.proofs.Common.{◌≡◌, ◌∙◌, ◌+◌, ◌-◌, ◌<◌, ◌≤◌, ap, refl, sym, length, arith, subst}
use Rattle.std.proofs.lemmas.List.{length-append}
use Rattle.std.proofs.lemmas.Result.{err_from_is_err_and}
use Rattle.cell_values.specs.declared.TheConstants.{MAX_BOOK_CELLS}
use Rattle.sheet_loading.specs.Loaded.{LoadedSheets, book_of}
use Rattle.sheet_loading.proofs.Adding.{cells_left, loader_adds, loader_grows, sheet_adds, sheet_refused, too_long}
use Rattle.sheet_loading.proofs.loader.Loader.add.Goals as goal

pub returns-then-bytes-self-clause-added : goal.returns-then-bytes-self-clause-added
returns-then-bytes-self-clause-added c =
    rw (← c.self.view_is) (λ read right. too_long read c.self.inside.names c.self.inside.sheet c.self.inside.left _ c.args.bytes.now c.if-bytes-self.true)

pub returns-then-bytes-self-clause-unchanged : goal.returns-then-bytes-self-clause-unchanged
unfolding book_of
returns-then-bytes-self-clause-unchanged c = λ read right. refl

pub invariant_of-self : goal.invariant_of-self
invariant_of-self c = loader_grows c.self.inside.names c.self.inside.texts c.read_fields.new.texts c.self.inside.fields.items c.self.inside.left c.self.inside.sheet c.read_fields.ensures.kept c.self.invariant

pub returns-in_err-fields-clause-added : goal.returns-in_err-fields-clause-added
unfolding book_of
returns-in_err-fields-clause-added c =
    let p = err_from_is_err_and c.from_residual.result c.from_residual.ensures.1 in
    let low : length c.args.bytes.now ≤ c.self.inside.left = omega (arith, c.if-bytes-self.false) in
    rw (p.1, p.2, ← c.self.view_is) (sheet_refused c.in_err-fields.field-0.0 c.self.inside.names c.self.inside.texts c.self.inside.fields.items c.self.inside.left _ c.self.inside.sheet c.args.bytes.now c.self.invariant (ap (λ n. MAX_BOOK_CELLS - n) (c.len.ensures ∙ c.self.inside.fields.ok.0)) low c.in_err-fields.ensures.fault)

pub returns-in_err-fields-clause-unchanged : goal.returns-in_err-fields-clause-unchanged
returns-in_err-fields-clause-unchanged c =
    let p = err_from_is_err_and c.from_residual.result c.from_residual.ensures.1 in
    rw (p.1, ← c.self.view_is) (cells_left c.self.inside.names c.self.inside.texts c.read_fields.new.texts c.self.inside.fields.items c.self.inside.left c.self.inside.sheet c.read_fields.ensures.kept c.self.invariant)

pub invariant_of-self-in_err-append : goal.invariant_of-self-in_err-append
invariant_of-self-in_err-append c = rw c.in_err-append.ensures.items (loader_grows c.self.inside.names c.self.inside.texts c.read_fields.new.texts c.self.inside.fields.items c.self.inside.left c.self.inside.sheet c.read_fields.ensures.kept c.self.invariant)

pub returns-in_err-append-clause-unchanged : goal.returns-in_err-append-clause-unchanged
returns-in_err-append-clause-unchanged c =
    let p = err_from_is_err_and c.from_residual-in_err-append.result c.from_residual-in_err-append.ensures.1 in
    rw (p.1, c.in_err-append.ensures.items, ← c.self.view_is) (cells_left c.self.inside.names c.self.inside.texts c.read_fields.new.texts c.self.inside.fields.items c.self.inside.left c.self.inside.sheet c.read_fields.ensures.kept c.self.invariant)

pub invariant_of-self-2 : goal.invariant_of-self-2
invariant_of-self-2 c =
    let whole : length c.append.new.self.items ≡ length c.self.inside.fields.items + length c.in_ok-fields.fields.items = ap length c.in_ok-append.ensures.items ∙ length-append c.self.inside.fields.items c.in_ok-fields.fields.items in
    let old : c.len.result ≡ length c.self.inside.fields.items = c.len.ensures ∙ c.self.inside.fields.ok.0 in
    let more : length c.in_ok-fields.fields.items ≤ MAX_BOOK_CELLS - c.len.result = subst (λ n. n ≤ MAX_BOOK_CELLS - c.len.result) c.in_ok-fields.fields.ok.0 c.in_ok-fields.ensures.within in
    let few = c.self.invariant.few in
    loader_adds c.self.inside.names c.self.inside.texts c.read_fields.new.texts c.self.inside.fields.items c.in_ok-fields.fields.items c.append.new.self.items c.self.inside.left _ c.self.inside.sheet c.args.bytes.now
    c.self.invariant c.read_fields.ensures.kept c.in_ok-fields.ensures.ok c.in_ok-append.ensures.items (omega (arith, whole, old, more, few))
    (subst (λ (l : LoadedSheets). l.sheet < length l.names) (sym c.self.view_is) c.requires.next)

pub returns-clause-added : goal.returns-clause-added
unfolding book_of
returns-clause-added c =
    let low : length c.args.bytes.now ≤ c.self.inside.left = omega (arith, c.if-bytes-self.false) in
    rw (← c.self.view_is) (sheet_adds c.self.inside.names c.self.inside.texts c.read_fields.new.texts c.self.inside.fields.items c.in_ok-fields.fields.items c.append.new.self.items c.self.inside.left _ c.self.inside.sheet c.args.bytes.now
    c.self.invariant c.read_fields.ensures.kept c.in_ok-fields.ensures.ok c.in_ok-append.ensures.items (ap (λ n. MAX_BOOK_CELLS - n) (c.len.ensures ∙ c.self.inside.fields.ok.0)) low)
