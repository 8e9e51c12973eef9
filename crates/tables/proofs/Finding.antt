-- A name that is found stays found, and a new row is found.
use Rattle.std.proofs.Common.{◌≡◌, ℕ, ◌+◌, Bool, true, false, List, [], ◌∷◌, ◌++◌, length, Some, None, sym, refl, ap, ◌∙◌, append_assoc, arith}
use Rattle.std.proofs.lemmas.Bool.{cond-true, cond-false}
use Rattle.tables.specs.declared.NameRow.{NameRow}
use Rattle.tables.specs.Names.{is_name, found}
use Rattle.tables.specs.Feed.{Texts}
use Rattle.tables.specs.Grammar.{Entry, Head}
use Rattle.tables.proofs.Ruled.{Ext}
use Rattle.tables.specs.Meaning.{Finds, Codes, bare, code, HeadIs, named, missing}

pub ext_trans : {X : Type 0} {xs ys zs : List X} → Ext xs ys → Ext ys zs → Ext xs zs
ext_trans {X} {xs} {ys} {zs} a b = record { rest = a.rest ++ b.rest; is = b.is ∙ ap (λ l. l ++ b.rest) a.is ∙ append_assoc xs a.rest b.rest }

module _ (p q b : List ℕ) where
  found_cons : (r : NameRow) (xs ys : List NameRow) (i n : ℕ) (c : Bool) → is_name p q b r ≡ c → (found p q b (i + 1) xs ≡ Some n → found p q b (i + 1) (xs ++ ys) ≡ Some n) → found p q b i (r ∷ xs) ≡ Some n → found p q b i ((r ∷ xs) ++ ys) ≡ Some n
  found_cons r xs ys i n true h f e = cond-true _ _ _ h ∙ sym (cond-true (is_name p q b r) (Some i) (found p q b (i + 1) xs) h) ∙ e
  found_cons r xs ys i n false h f e = cond-false _ _ _ h ∙ f (sym (cond-false (is_name p q b r) (Some i) (found p q b (i + 1) xs) h) ∙ e)

  found_on : (xs ys : List NameRow) (i n : ℕ) → found p q b i xs ≡ Some n → found p q b i (xs ++ ys) ≡ Some n
  found_on [] ys i n e = let z : ◌≡◌ {A = ℕ} 0 1 = cc in absurd (omega arith)
  found_on (r ∷ xs) ys i n e = found_cons r xs ys i n (is_name p q b r) refl (found_on xs ys (i + 1) n) e

  last_cons : (y r : NameRow) (xs : List NameRow) (i n : ℕ) (c : Bool) → is_name p q b y ≡ c → (found p q b (i + 1) xs ≡ None → found p q b (i + 1) (xs ++ (r ∷ [])) ≡ Some n) → found p q b i (y ∷ xs) ≡ None → found p q b i ((y ∷ xs) ++ (r ∷ [])) ≡ Some n
  last_cons y r xs i n true h f e = let w = sym (cond-true (is_name p q b y) (Some i) (found p q b (i + 1) xs) h) ∙ e in let z : ◌≡◌ {A = ℕ} 0 1 = cc w in absurd (omega arith)
  last_cons y r xs i n false h f e = cond-false _ _ _ h ∙ f (sym (cond-false (is_name p q b y) (Some i) (found p q b (i + 1) xs) h) ∙ e)

  found_last : (xs : List NameRow) (r : NameRow) (i n : ℕ) → n ≡ i + length xs → is_name p q b r ≡ true → found p q b i xs ≡ None → found p q b i (xs ++ (r ∷ [])) ≡ Some n
  found_last [] r i n m h e = cond-true _ _ _ h ∙ ap Some (let w : i ≡ n = omega arith in w)
  found_last (y ∷ xs) r i n m h e = last_cons y r xs i n (is_name p q b y) refl (found_last xs r (i + 1) n (omega arith) h) e

pub finds_on : (x : Texts) {rows more : List NameRow} (b : List ℕ) (n : ℕ) → Ext rows more → Finds x rows b n → Finds x more b n
finds_on x {rows} {more} b n a f = ap (found x.region x.harbour b 0) a.is ∙ found_on x.region x.harbour b rows a.rest 0 n f

pub finds_new : (x : Texts) (rows : List NameRow) (b : List ℕ) (r : NameRow) (n : ℕ) → n ≡ length rows → is_name x.region x.harbour b r ≡ true → found x.region x.harbour b 0 rows ≡ None → Finds x (rows ++ (r ∷ [])) b n
finds_new x rows b r n m h e = found_last x.region x.harbour b rows r 0 n (omega arith) h e

pub codes_on : (x : Texts) {rows more : List NameRow} {es : List Entry} {cs : List ℕ} → Ext rows more → Codes x rows es cs → Codes x more es cs
codes_on x a bare = bare
codes_on x a (code sign b k n es cs f c) = code sign b k n es cs (finds_on x b n a f) (codes_on x a c)

pub head_on : (x : Texts) {rows more : List NameRow} {h : Head} {n : ℕ} → Ext rows more → HeadIs x rows h n → HeadIs x more h n
head_on x a (named b k n f) = named b k n (finds_on x b n a f)
head_on x a missing = missing
