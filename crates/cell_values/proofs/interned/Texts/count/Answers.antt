-- Each text was made from a string.
use Rattle.std.proofs.Common.{string_bytes, slice_index_or, All, subst}
use Rattle.std.specs.Str.{IsUtf8}
use Rattle.std.proofs.lemmas.Str.{IsUtf8-string_bytes}
use Rattle.std.proofs.lemmas.List.Elements.{All-map}
use Rattle.cell_values.proofs.interned.Texts.count.Goals as goal

pub returns-clause-utf8 : goal.returns-clause-utf8
returns-clause-utf8 c = subst (All IsUtf8) c.self.view_is (All-map IsUtf8 string_bytes c.self.inside.texts.items (λ k d h. IsUtf8-string_bytes (slice_index_or c.self.inside.texts.items k d)))
