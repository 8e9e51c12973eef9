-- Reading writes only new rows.
use Rattle.std.proofs.Common.{◌≡◌, ℕ, ◌+◌, ◌<◌, ◌≤◌, false, leb, List, length, drop, set, sym, refl, ap, ◌∙◌, arith, leb-false}
use Rattle.std.proofs.lemmas.List.{take-set-le, drop-set-lt, drop-drop, length-set}
use Rattle.std.proofs.lemmas.Bool.{or_parts}
use Rattle.words.specs.Running.{Running}
use Rattle.tables.specs.Feed.{Tables, Texts, full}
use Rattle.tables.specs.Reading.{run}
use Rattle.tables.specs.Draft.{Counts, stage_from}
use Rattle.tables.specs.Only.{Only, OnlyNew}
use Rattle.tables.proofs.Invariant.{Lasts, Holds, run_holds}

only_more : {X : Type 0} (limit n m : ℕ) (xs ys : List X) (v : X) → full limit (length ys) m ≡ false → Only n m xs ys → Only n (m + 1) xs (set ys m v)
only_more limit n m xs ys v f o =
    let q = or_parts (leb limit m) (leb (length ys) m) f in
    let b : m < length ys = leb-false (length ys) m q.1 in
    record {
      before = take-set-le n ys m v o.grown ∙ o.before;
      after = drop-set-lt (m + 1) ys m v (omega arith) ∙ sym (drop-drop 1 m ys) ∙ ap (drop 1) o.after ∙ drop-drop 1 m xs;
      size = length-set ys m v ∙ o.size;
      grown = let h = o.grown in omega arith;
      room = omega (arith, length-set ys m v);
    }

module _ (d : Counts) (t : Tables) where
  abbrev pub New : ℕ → ℕ → ℕ → Tables → Type 0
  New n r e u = OnlyNew d (record { texts = 0; names = n; rules = r; entries = e }) t u

  lasts : Lasts New
  lasts = record {
    name_row = λ n r e u row f o. record { names = only_more 512 d.names n t.names u.names row f o.names; rules = o.rules; entries = o.entries };
    rule_row = λ n r e u row f o. record { names = o.names; rules = only_more 2048 d.rules r t.rules u.rules row f o.rules; entries = o.entries };
    entry_row = λ n r e u code f o. record { names = o.names; rules = o.rules; entries = only_more 8192 d.entries e t.entries u.entries code f o.entries };
  }

  only_start : {X : Type 0} (n : ℕ) (xs : List X) → n ≤ length xs → Only n n xs xs
  only_start n xs g = record { before = refl; after = refl; size = refl; grown = omega arith; room = g }

  pub only_new : (x : Texts) (n : ℕ) (ws : Running) → d.names ≤ length t.names → d.rules ≤ length t.rules → d.entries ≤ length t.entries → Holds New (run x n (stage_from d) t ws)
  only_new x n ws a b c = run_holds New lasts x n ws (stage_from d) t (record { names = only_start d.names t.names a; rules = only_start d.rules t.rules b; entries = only_start d.entries t.entries c })
