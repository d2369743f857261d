-- How far the tokens of a formula are read.
use Rattle.std.proofs.Common.{◌≡◌, ℕ, suc, zero, ◌+◌, ◌<◌, ◌≤◌, Bool, true, false, cond, List, [], ◌∷◌, ◌++◌, length, map, get_or, take, drop, refl, ap, sym, subst, ◌∙◌, arith, Option, Some, None}
use Rattle.std.specs.Prelude.{flat_map, unwrap_or}
use Rattle.std.specs.List.{AllByRecursion}
use Rattle.cell_values.specs.Numbers.{fits}
use Rattle.std.specs.Str.{bytes_eq}
use Rattle.std.proofs.lemmas.Bool.{cond-true, cond-false}
use Rattle.std.proofs.lemmas.List.{drop_more, at_drop_more, at_drop_all, take_all, take-take, length-take, take_at, append_assoc, append-nil, map-append, drop-drop}
use Rattle.std.proofs.lemmas.List.Concat.{flat_map-append}
use Rattle.std.proofs.lemmas.List.Sums.{fold-append}
use Rattle.std.proofs.lemmas.Slice.Eq.{bytes_eq-Decides}
use Rattle.cell_values.specs.declared.interned.TextId.{TextId}
use Rattle.cell_values.specs.Texts.{Texts}
use Rattle.cell_values.specs.Interned.{number_of, interned, KeepsTexts}
use Rattle.cell_values.proofs.Numbering.{number_of_more, number_is_there}
use Rattle.formula_tokens.specs.declared.token.Spot.{Spot}
use Rattle.formula_tokens.specs.declared.token.Literal.{Literal}
use Rattle.formula_tokens.specs.declared.token.Token.{Token}
use Rattle.formula_tokens.specs.Lexemes.{Lexeme, Quoted, Other, Placed, Cut, is_blank, is_bad, is_prefix, literal_cut, first_lexeme, lexemes_at, lexemes}
use Rattle.formula_tokens.proofs.Plain.{IsPlain, plain_first}
use Rattle.formula_tokens.specs.Tokens.{token_of, spot_of, spots_of, literal_of, with_texts, with_literals, TextIsOf, TextsAreOf}

-- a text literal's text is there, and no other token has a text's number
abbrev pub IsKnown : Texts → Placed → Type 0
IsKnown ts (place, Quoted text) = (n : ℕ) × (number_of ts text ≡ Some n)
IsKnown ts (place, Other t) = (now : Texts) → TextIsOf now t

-- the texts after an interned one
bytes_same : (xs : List ℕ) → bytes_eq xs xs ≡ true
bytes_same xs = (bytes_eq-Decides xs xs).1 refl

interned_by : (ts : Texts) (text : List ℕ) (o : Option ℕ) → number_of ts text ≡ o → (number_of (interned ts text).0 text ≡ Some (interned ts text).1.0) × KeepsTexts ts (interned ts text).0
interned_by ts text (Some n) e = rw e (e, take_all (length ts) ts (omega arith))
interned_by ts text None e =
    rw e (
      number_of_more ts text text e ∙ cond-true (bytes_eq text text) (Some (length ts)) (number_of ts text) (bytes_same text),
      take_at ts (text ∷ []) (length ts) refl,
    )

pub interned_number : (ts : Texts) (text : List ℕ) → number_of (interned ts text).0 text ≡ Some (interned ts text).1.0
interned_number ts text = (interned_by ts text (number_of ts text) refl).0

interned_keeps : (ts : Texts) (text : List ℕ) → KeepsTexts ts (interned ts text).0
interned_keeps ts text = (interned_by ts text (number_of ts text) refl).1

same_text : (xs ys : List ℕ) → bytes_eq xs ys ≡ true → xs ≡ ys
same_text xs ys h = (bytes_eq-Decides xs ys).0 h

still_known : (ts : Texts) (text q : List ℕ) (n : ℕ) (o : Option ℕ) (b : Bool) → number_of ts text ≡ o → bytes_eq text q ≡ b → number_of ts q ≡ Some n → number_of (interned ts text).0 q ≡ Some n
still_known ts text q n (Some m) b e t h = rw e h
still_known ts text q n None true e t h =
    let same = ap (number_of ts) (same_text text q t) in
    let both : None ≡ Some n = sym e ∙ same ∙ h in
    cc
still_known ts text q n None false e t h = rw e (number_of_more ts text q e ∙ cond-false (bytes_eq text q) (Some (length ts)) (number_of ts q) t ∙ h)

-- a text that is there keeps its number
pub number_stays : (ts : Texts) (p : Placed) (q : List ℕ) (n : ℕ) → number_of ts q ≡ Some n → number_of (with_texts ts (literal_of p)) q ≡ Some n
number_stays ts (place, Quoted text) q n h = still_known ts text q n (number_of ts text) (bytes_eq text q) refl refl h
number_stays ts (place, Other t) q n h = h

kept_stays : (ts : Texts) (p : Placed) → KeepsTexts ts (with_texts ts (literal_of p))
kept_stays ts (place, Quoted text) = interned_keeps ts text
kept_stays ts (place, Other t) = take_all (length ts) ts (omega arith)

known_stays : (ts : Texts) (p q : Placed) → IsKnown ts q → IsKnown (with_texts ts (literal_of p)) q
known_stays ts p (place, Quoted text) k = (k.0, number_stays ts p text k.0 k.1)
known_stays ts p (place, Other t) k = k

spot_stays : (ts : Texts) (p q : Placed) → IsKnown ts q → spot_of (with_texts ts (literal_of p)) q ≡ spot_of ts q
spot_stays ts p (place, Quoted text) k =
    ap (λ (o : Option ℕ). record { token = Token.Literal (Literal.Text (record { 0 = unwrap_or o 0 })); place = place }) (number_stays ts p text k.0 k.1 ∙ sym k.1)
spot_stays ts p (place, Other t) k = refl

now_known : (ts : Texts) (place : ℕ) (l : Lexeme) → ((now : Texts) → IsPlain now l) → IsKnown (with_texts ts (literal_of (place, l))) (place, l)
now_known ts place (Quoted text) h = ((interned ts text).1.0, interned_number ts text)
now_known ts place (Other t) h = h

all_stay : (ts : Texts) (p : Placed) (ps : List Placed) → AllByRecursion (IsKnown ts) ps → AllByRecursion (IsKnown (with_texts ts (literal_of p))) ps
all_stay ts p [] k = k
all_stay ts p (q ∷ qs) k = (known_stays ts p q k.0, all_stay ts p qs k.1)

spots_stay : (ts : Texts) (p : Placed) (ps : List Placed) → AllByRecursion (IsKnown ts) ps → map (spot_of (with_texts ts (literal_of p))) ps ≡ map (spot_of ts) ps
spots_stay ts p [] k = refl
spots_stay ts p (q ∷ qs) k =
    let head = spot_stays ts p q k.0 in
    let tail = spots_stay ts p qs k.1 in
    cc

all_push : (ts : Texts) (ps : List Placed) (p : Placed) → AllByRecursion (IsKnown ts) ps → IsKnown ts p → AllByRecursion (IsKnown ts) (ps ++ p ∷ [])
all_push ts [] p k now = (now, tt)
all_push ts (q ∷ qs) p k now = (k.0, all_push ts qs p k.1 now)

known_spot : (ts : Texts) (p : Placed) → IsKnown ts p → TextIsOf ts (spot_of ts p).token
known_spot ts (place, Quoted text) k =
    let P : Option ℕ → Type 0 = λ o. unwrap_or o 0 < length ts in
    subst P (sym k.1) (number_is_there ts text k.0 k.1)
known_spot ts (place, Other t) k = k ts

known_spots : (ts : Texts) (ps : List Placed) → AllByRecursion (IsKnown ts) ps → TextsAreOf ts (map (spot_of ts) ps)
known_spots ts [] k = k
known_spots ts (p ∷ ps) k = (known_spot ts p k.0, known_spots ts ps k.1)

-- the token of a text literal that was interned
pub literal_token : (ts now : Texts) (id : TextId) (text : List ℕ) (size : ℕ) (o : Option (List ℕ × ℕ)) → (now, id) ≡ interned ts text → Some (text, size) ≡ o → Token.Literal (Literal.Text id) ≡ token_of now (literal_cut o).lexeme
literal_token ts now id text size o e f =
    let number : number_of now text ≡ Some id.0 = ap (λ (p : Texts × TextId). number_of p.0 text) e ∙ interned_number ts text ∙ ap (λ (p : Texts × TextId). Some p.1.0) (sym e) in
    ap (λ (r : Option ℕ). Token.Literal (Literal.Text (record { 0 = unwrap_or r 0 }))) (sym number) ∙ ap (λ (r : Option (List ℕ × ℕ)). token_of now (literal_cut r).lexeme) f

-- the texts and the tokens of some lexemes of a formula, where others follow them
pub record Reads (names : List (List ℕ)) (old : Texts) (text : List ℕ) (ts : Texts) (spots : List Spot) (rest : List Placed) : Type 0 where
  pub done : List Placed
  pub whole : done ++ rest ≡ lexemes names text
  pub spots_are : spots ≡ map (spot_of ts) done
  pub texts_are : ts ≡ with_texts old (flat_map literal_of done)
  pub known : AllByRecursion (IsKnown ts) done
  pub kept : KeepsTexts old ts

kept_on : (old ts now : Texts) → KeepsTexts old ts → KeepsTexts ts now → KeepsTexts old now
kept_on old ts now a b =
    let len = ap length a in
    let short = length-take (length old) ts in
    sym (take-take (length old) (length ts) now (omega arith)) ∙ ap (take (length old)) b ∙ a

pub reads_start : (names : List (List ℕ)) (old : Texts) (text : List ℕ) → Reads names old text old [] (lexemes_at names 1 0 false (drop 1 text))
unfolding lexemes
reads_start names old text = record { done = []; whole = refl; spots_are = refl; texts_are = refl; known = tt; kept = take_all (length old) old (omega arith) }

-- one more lexeme
reads_push : (names : List (List ℕ)) (old : Texts) (text : List ℕ) (ts : Texts) (spots : List Spot) (place : ℕ) (l : Lexeme) (rest : List Placed) → Reads names old text ts spots ((place, l) ∷ rest) → ((now : Texts) → IsPlain now l)
    → Reads names old text (with_texts ts (literal_of (place, l))) (spots ++ spot_of (with_texts ts (literal_of (place, l))) (place, l) ∷ []) rest
reads_push names old text ts spots place l rest r plain =
    let p : Placed = (place, l) in
    let now : Texts = with_texts ts (literal_of p) in
    record {
      done = r.done ++ p ∷ [];
      whole = append_assoc r.done (p ∷ []) rest ∙ r.whole;
      spots_are = ap (λ (ss : List Spot). ss ++ spot_of now p ∷ []) (r.spots_are ∙ sym (spots_stay ts p r.done r.known)) ∙ sym (map-append (spot_of now) r.done (p ∷ []));
      texts_are = ap (λ (xs : Texts). with_texts xs (literal_of p)) r.texts_are
          ∙ sym (fold-append (λ known literal. (interned known literal).0) old (flat_map literal_of r.done) (literal_of p))
          ∙ ap (with_texts old) (ap (λ (xs : List (List ℕ)). flat_map literal_of r.done ++ xs) (sym (append-nil (literal_of p))) ∙ sym (flat_map-append literal_of r.done (p ∷ [])));
      known = all_push now r.done p (all_stay ts p r.done r.known) (now_known ts place l plain);
      kept = kept_on old ts now r.kept (kept_stays ts p);
    }

-- what follows a lexeme begins behind its bytes
skip : (names : List (List ℕ)) (place more : ℕ) (prefixed : Bool) (text : List ℕ) → lexemes_at names place more prefixed text ≡ lexemes_at names (place + more) 0 prefixed (drop more text)
skip names place zero prefixed text = ap (λ n. lexemes_at names n 0 prefixed text) (omega arith)
skip names place (suc more) prefixed [] = refl
skip names place (suc more) prefixed (b ∷ rest) = skip names (suc place) more prefixed rest ∙ ap (λ n. lexemes_at names n 0 prefixed (drop more rest)) (omega arith)

at_blank : (names : List (List ℕ)) (prefixed : Bool) (text : List ℕ) (place : ℕ) → place < length text → is_blank (get_or text place 0) ≡ true → lexemes_at names place 0 prefixed (drop place text) ≡ lexemes_at names (place + 1) 0 false (drop (place + 1) text)
at_blank names prefixed text place h e =
    at_drop_more (lexemes_at names place 0 prefixed) text place 0 h ∙ cond-true (is_blank (get_or text place 0)) _ _ e
    ∙ ap (λ n. lexemes_at names n 0 false (drop (place + 1) text)) (omega arith)

at_token : (names : List (List ℕ)) (prefixed : Bool) (text : List ℕ) (place : ℕ) → place < length text → is_blank (get_or text place 0) ≡ false → (c : Cut) → c ≡ first_lexeme names prefixed (drop place text) → (size : ℕ) → size ≡ c.more + 1
    → lexemes_at names place 0 prefixed (drop place text) ≡ (place, c.lexeme) ∷ cond (is_bad c.lexeme) [] (lexemes_at names (place + size) 0 (is_prefix c.lexeme) (drop (place + size) text))
at_token names prefixed text place h e c first size fits =
    let after : List ℕ = drop (place + 1) text in
    let tail = λ (d : Cut). (place, d.lexeme) ∷ cond (is_bad d.lexeme) [] (lexemes_at names (suc place) d.more (is_prefix d.lexeme) after) in
    let on = λ (n : ℕ). lexemes_at names n 0 (is_prefix c.lexeme) (drop (place + size) text) in
    let skipped : drop c.more after ≡ drop (place + size) text = drop-drop c.more (place + 1) text ∙ ap (λ n. drop n text) (omega arith) in
    let rest : lexemes_at names (suc place) c.more (is_prefix c.lexeme) after ≡ lexemes_at names (place + size) 0 (is_prefix c.lexeme) (drop (place + size) text) =
    skip names (suc place) c.more (is_prefix c.lexeme) after ∙ ap (λ xs. lexemes_at names (suc place + c.more) 0 (is_prefix c.lexeme) xs) skipped ∙ ap on (omega arith) in
    at_drop_more (lexemes_at names place 0 prefixed) text place 0 h ∙ cond-false (is_blank (get_or text place 0)) _ _ e
    ∙ ap (λ xs. tail (first_lexeme names prefixed xs)) (sym (drop_more text place 0 h)) ∙ ap tail (sym first)
    ∙ ap (λ ps. (place, c.lexeme) ∷ cond (is_bad c.lexeme) [] ps) rest

pub reads_blank : (names : List (List ℕ)) (old : Texts) (text : List ℕ) (ts : Texts) (spots : List Spot) (place : ℕ) (prefixed : Bool) → Reads names old text ts spots (lexemes_at names place 0 prefixed (drop place text)) → place < length text → is_blank (get_or text place 0) ≡ true
    → Reads names old text ts spots (lexemes_at names (place + 1) 0 false (drop (place + 1) text))
reads_blank names old text ts spots place prefixed r h e = subst (λ ps. Reads names old text ts spots ps) (at_blank names prefixed text place h e) r

bad_stays : (ts : Texts) (l : Lexeme) → is_bad (Other (token_of ts l)) ≡ is_bad l
bad_stays ts (Quoted text) = refl
bad_stays ts (Other t) = refl

prefix_stays : (ts : Texts) (l : Lexeme) → is_prefix (Other (token_of ts l)) ≡ is_prefix l
prefix_stays ts (Quoted text) = refl
prefix_stays ts (Other t) = refl

-- the token that is read at a place, and its size
module _ (names : List (List ℕ)) (old : Texts) (text : List ℕ) (ts now : Texts) (spots : List Spot) (place : ℕ) (prefixed : Bool) (token : Token) (size : ℕ)
    (r : Reads names old text ts spots (lexemes_at names place 0 prefixed (drop place text))) (inside : place < length text) (solid : is_blank (get_or text place 0) ≡ false)
    (is : token ≡ token_of now (first_lexeme names prefixed (drop place text)).lexeme) (fits : size ≡ (first_lexeme names prefixed (drop place text)).more + 1)
    (texts : now ≡ with_texts ts (literal_of (place, (first_lexeme names prefixed (drop place text)).lexeme))) where
  abbrev here : Lexeme
  here = (first_lexeme names prefixed (drop place text)).lexeme

  abbrev after : List Placed
  after = lexemes_at names (place + size) 0 (is_prefix here) (drop (place + size) text)

  abbrev spot : Spot
  spot = record { token = token; place = place }

  pushed : Reads names old text now (spots ++ spot ∷ []) (cond (is_bad here) [] after)
  pushed =
      let whole = at_token names prefixed text place inside solid (first_lexeme names prefixed (drop place text)) refl size fits in
      let more = reads_push names old text ts spots place here (cond (is_bad here) [] after) (subst (λ ps. Reads names old text ts spots ps) whole r) (λ other. plain_first other names prefixed (drop place text)) in
      let same = subst (λ xs. Reads names old text xs (spots ++ spot_of xs (place, here) ∷ []) (cond (is_bad here) [] after)) (sym texts) more in
      subst (λ t. Reads names old text now (spots ++ record { token = t; place = place } ∷ []) (cond (is_bad here) [] after)) (sym is) same

  kind : is_bad (Other token) ≡ is_bad here
  kind = ap (λ t. is_bad (Other t)) is ∙ bad_stays now here

  pub reads_bad : is_bad (Other token) ≡ true → Reads names old text now (spots ++ spot ∷ []) []
  reads_bad h = subst (λ ps. Reads names old text now (spots ++ spot ∷ []) ps) (cond-true (is_bad here) [] after (sym kind ∙ h)) pushed

  pub reads_token : is_bad (Other token) ≡ false → (p : Bool) → p ≡ is_prefix (Other token) → Reads names old text now (spots ++ spot ∷ []) (lexemes_at names (place + size) 0 p (drop (place + size) text))
  reads_token h p e =
      let good = subst (λ ps. Reads names old text now (spots ++ spot ∷ []) ps) (cond-false (is_bad here) [] after (sym kind ∙ h)) pushed in
      let same : is_prefix here ≡ p = sym (prefix_stays now here) ∙ ap (λ t. is_prefix (Other t)) (sym is) ∙ sym e in
      subst (λ q. Reads names old text now (spots ++ spot ∷ []) (lexemes_at names (place + size) 0 q (drop (place + size) text))) same good

pub reads_end : (names : List (List ℕ)) (old : Texts) (text : List ℕ) (ts : Texts) (spots : List Spot) (place : ℕ) (prefixed : Bool) → Reads names old text ts spots (lexemes_at names place 0 prefixed (drop place text)) → length text ≤ place → Reads names old text ts spots []
reads_end names old text ts spots place prefixed r h = subst (λ ps. Reads names old text ts spots ps) (at_drop_all (lexemes_at names place 0 prefixed) text place h) r

-- the tokens are those of a list that is built
pub reads_items : (names : List (List ℕ)) (old : Texts) (text : List ℕ) (ts : Texts) (spots items : List Spot) (rest : List Placed) → items ≡ spots → Reads names old text ts spots rest → Reads names old text ts items rest
reads_items names old text ts spots items rest e r = subst (λ ss. Reads names old text ts ss rest) (sym e) r

-- what holds where nothing follows
pub record Finished (names : List (List ℕ)) (old : Texts) (text : List ℕ) (ts : Texts) (spots : List Spot) : Type 0 where
  pub tokens : spots ≡ spots_of names ts text
  pub interned : ts ≡ with_literals names old text
  pub there : TextsAreOf ts spots
  pub kept : KeepsTexts old ts

pub finish : (names : List (List ℕ)) (old : Texts) (text : List ℕ) (ts : Texts) (spots : List Spot) → Reads names old text ts spots [] → Finished names old text ts spots
unfolding spots_of with_literals
finish names old text ts spots r =
    let all : r.done ≡ lexemes names text = sym (append-nil r.done) ∙ r.whole in
    record {
      tokens = r.spots_are ∙ ap (map (spot_of ts)) all;
      interned = r.texts_are ∙ ap (λ (ps : List Placed). with_texts old (flat_map literal_of ps)) all;
      there = subst (λ (ss : List Spot). TextsAreOf ts ss) (sym r.spots_are) (known_spots ts r.done r.known);
      kept = r.kept;
    }
