-- With the new text each text has its number still, and no two texts are equal.
use Rattle.std.proofs.Common.{◌≡◌, ℕ, List, [], ◌∷◌, ◌++◌, length, map, string_bytes, ap, ◌∙◌, arith, None}
use Rattle.std.proofs.lemmas.List.{map_push, length-map}
use Rattle.cell_values.specs.Interned.{number_of}
use Rattle.cell_values.proofs.Numbering.{more_distinct, entry_added}
use Rattle.cell_values.proofs.interned.Texts.add.Goals as goal

pub invariant_of-self-in-Ok : goal.invariant_of-self-in-Ok
invariant_of-self-in-Ok c =
    let ts : List (List ℕ) = map string_bytes c.self.inside.texts.items in
    let new : number_of ts c.args.text.now ≡ None = ap (λ (xs : List (List ℕ)). number_of xs c.args.text.now) c.self.view_is ∙ c.requires in
    let texts_are : map string_bytes c.push.new.self.items ≡ ts ++ c.args.text.now ∷ [] =
    ap (map string_bytes) c.in_ok-push.ensures.items ∙ map_push string_bytes c.self.inside.texts.items c.in_ok-kept.kept
    ∙ ap (λ (bs : List ℕ). ts ++ bs ∷ []) c.in_ok-kept.ensures.ok in
    let number_is : c.len-number.result ≡ length ts = omega (arith, c.len-number.ensures, c.self.inside.texts.ok.0, length-map c.self.inside.texts.items string_bytes) in
    rw texts_are (
      more_distinct ts c.args.text.now c.self.invariant.0 new,
      entry_added ts c.args.text.now c.self.inside.numbers c.insert.new.self c.in_ok-key.key c.len-number.result c.in_ok-key.ensures.ok number_is new c.self.invariant.1 c.in-Ok.ensures.updates,
    )

pub returns-in-Ok-clause-distinct : goal.returns-in-Ok-clause-distinct
returns-in-Ok-clause-distinct c =
    let ts : List (List ℕ) = map string_bytes c.self.inside.texts.items in
    let new : number_of ts c.args.text.now ≡ None = ap (λ (xs : List (List ℕ)). number_of xs c.args.text.now) c.self.view_is ∙ c.requires in
    let texts_are : map string_bytes c.push.new.self.items ≡ ts ++ c.args.text.now ∷ [] =
    ap (map string_bytes) c.in_ok-push.ensures.items ∙ map_push string_bytes c.self.inside.texts.items c.in_ok-kept.kept
    ∙ ap (λ (bs : List ℕ). ts ++ bs ∷ []) c.in_ok-kept.ensures.ok in
    rw texts_are (more_distinct ts c.args.text.now c.self.invariant.0 new)
