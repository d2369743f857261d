use Rattle.std.proofs.Common.{◌≡◌, Some, None, length, ap, sym, ◌∙◌, arith}
use Rattle.shared_expressions.specs.Keys.{key_of}
use Rattle.shared_expressions.specs.Stored.{number_of}
use Rattle.shared_expressions.proofs.Entries.{all_below_more}
use Rattle.shared_expressions.proofs.Lookup.{found_entry}
use Rattle.shared_expressions.proofs.There.{not_there}
use Rattle.shared_expressions.proofs.store.add.Goals as goal

pub key_of-requires : goal.key_of-requires
key_of-requires c = all_below_more (length c.args.store.now.entries.items) 9223372036854775808 c.args.parts.now (omega (arith, c.args.store.now.entries.small)) c.requires.below

pub returns-in-Some-clause-ok : goal.returns-in-Some-clause-ok
returns-in-Some-clause-ok c =
    let key : c.as_slice.result.now ≡ key_of c.args.node c.args.parts.now = c.as_slice.ensures.value ∙ c.in_ok-key.ensures in
    let there : number_of c.args.store.now (key_of c.args.node c.args.parts.now) ≡ Some c.in-Some.i.now = ap (number_of c.args.store.now) (sym key) ∙ sym c.in-Some.ensures.value in
    let found = found_entry c.args.store.now.children.items c.args.store.now.entries.items (number_of c.args.store.now) c.args.node c.args.parts.now c.in-Some.i.now c.requires.store there in
    record { entry = found.0; number = found.1 }

pub returns-in-None-clause-there : goal.returns-in-None-clause-there
returns-in-None-clause-there c t =
    let key : c.as_slice.result.now ≡ key_of c.args.node c.args.parts.now = c.as_slice.ensures.value ∙ c.in_ok-key.ensures in
    let none : number_of c.args.store.now (key_of c.args.node c.args.parts.now) ≡ None = ap (number_of c.args.store.now) (sym key) ∙ sym c.in-None.ensures.value in
    absurd (not_there c.args.store.now c.args.node c.args.parts.now c.requires.store c.requires.count c.requires.below none t)
