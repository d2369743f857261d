-- A sheet's name from what stands in front of its cells.
use Rattle.std.proofs.Common.{◌≡◌, ◌≢◌, ℕ, List, [], ◌∷◌, ◌++◌, Bool, true, false, cond, refl, sym, subst, codes}
use Rattle.cell_values.specs.Names.{is_plain_name, prefix_text}

-- a plain name begins with no quote
no_quote : (name rest : List ℕ) → is_plain_name name ≡ true → name ++ codes "!" ≡ 39 ∷ rest → ⊥
unfolding is_plain_name
no_quote [] rest h e = cc
no_quote (c ∷ cs) rest h e =
    let first : c ≡ 39 = cc in
    let off : is_plain_name (39 ∷ cs) ≡ true = subst (λ z. is_plain_name (z ∷ cs) ≡ true) first h in
    let k : false ≡ true = off in cc

-- a quote in front: the name and its other quote follow
pub quoted_name : (name quoted : List ℕ) → 39 ∷ quoted ≡ prefix_text name → quoted ≡ name ++ codes "'!"
quoted_name name quoted e = go (is_plain_name name) refl e
  where
    go : (b : Bool) → is_plain_name name ≡ b → 39 ∷ quoted ≡ cond b (name ++ codes "!") (codes "'" ++ (name ++ codes "'!")) → quoted ≡ name ++ codes "'!"
    go true p q = absurd (no_quote name quoted p (sym q))
    go false p q = cc

-- no quote in front: the name stands alone
pub plain_name : (name prefix : List ℕ) → ((rest : List ℕ) → prefix ≢ 39 ∷ rest) → prefix ≡ prefix_text name → prefix ≡ name ++ codes "!"
plain_name name prefix none e = go (is_plain_name name) e
  where
    go : (b : Bool) → prefix ≡ cond b (name ++ codes "!") (codes "'" ++ (name ++ codes "'!")) → prefix ≡ name ++ codes "!"
    go true q = q
    go false q = absurd (none (name ++ codes "'!") q)
