-- Clauses are rules that make a base.
use Rattle.std.specs.Prelude.{◌≡◌, ℕ, ◌*◌, ◌<◌, Bool, true, false, ◌≢◌, List, length, ◌==◌, slice_index_or, refl}
use Rattle.std.proofs.Common.{sym, subst, inl, inr}
use Rattle.std.proofs.lemmas.Bool.{false_from_ne_true, eqb-true, cases_eq, and_parts, and_from, both_ways, eq-eqb, or_cases, or_left, or_right}
use Rattle.closing.specs.Sets.{contrary, holds, In, every_to, every_from, every_or, some_to, some_from, holds_once, Codes, in_to, part_codes}
use Rattle.closing.specs.Forces.{Sound, Based}
use Rattle.closing.specs.Closures.{either}
use Rattle.clauses.specs.declared.run.Run.{Run}
use Rattle.clauses.specs.Clauses.{run0, clause_at, has, forces_one, contradicted, clause_forces, ClausePlan, ClausesOk}

pub has_to : (e : ℕ) (c : List ℕ) → has e c ≡ true → In e c
has_to e c h = let x = some_to (λ f. f == e) c h in subst (λ z. In z c) (eqb-true x.0 e x.2) x.1

pub has_from : (e : ℕ) (c : List ℕ) → In e c → has e c ≡ true
has_from e c m = some_from (λ f. f == e) c e m (eq-eqb e e refl)

-- what a clause forces, opened
pub forces_to : (c : List ℕ) (D : ℕ → Bool) (e : ℕ) → forces_one c D e ≡ true → In e c × ((f : ℕ) → In f c → f ≢ e → D (contrary f) ≡ true)
forces_to c D e h = let t = and_parts (has e c) _ h in
    (has_to e c t.0, (λ f m n. elim (or_cases (f == e) (D (contrary f)) (every_to _ c t.1 f m)) [ inl q ↦ absurd (n (eqb-true f e q)) | inr q ↦ q ]))

pub forces_from : (c : List ℕ) (D : ℕ → Bool) (e : ℕ) → In e c → ((f : ℕ) → In f c → f ≢ e → D (contrary f) ≡ true) → forces_one c D e ≡ true
forces_from c D e m h = and_from (has e c) _ (has_from e c m) (every_from _ c (λ f mf. elim (cases_eq f e) [
  | inl q ↦ or_left (f == e) _ (eq-eqb f e q)
  | inr q ↦ or_right (f == e) _ (h f mf q)
]))

contradicted_not : (c : List ℕ) (p : List ℕ) (e : ℕ) → In e c → holds p e ≡ true → contradicted c (holds p) ≡ false
contradicted_not c p e m h = false_from_ne_true _ (λ all. holds_once p e h (every_to _ c all e m))

module _ (w : ℕ) (rs : List Run) (es : List ℕ) (ok : ClausesOk w rs es) where
  pub clause_codes : (k : ℕ) → k < length rs → Codes w (clause_at rs es k)
  clause_codes k l = part_codes w es (slice_index_or rs k run0).first (slice_index_or rs k run0).count ok.codes (ok.runs k l)

  pub clause_sound : Sound (clause_forces w rs es)
  clause_sound = record {
    narrow = ok.narrow;
    more = λ k C D s e x. let t = forces_to (clause_at rs es k) C e x in forces_from (clause_at rs es k) D e t.0 (λ f m n. s (contrary f) (t.1 f m n));
    bars = λ k C D s x. every_from _ (clause_at rs es k) (λ f m. s (contrary f) (every_to _ (clause_at rs es k) x f m));
    conflict = λ k e D l m x y z. (
      k,
      l,
      every_from _ (clause_at rs es k) (λ f mf. elim (cases_eq f e) [
        | inl q ↦ subst (λ v. D (contrary v) ≡ true) (sym q) z
        | inr q ↦ (forces_to (clause_at rs es k) D e x).1 f mf q
      ]),
    );
  }

  pub clause_based : Based (clause_forces w rs es) (λ p. ClausePlan w rs es p)
  clause_based = record {
    shaped = λ x p. p.whole;
    kept_by = λ x p k l e m f. let t = forces_to (clause_at rs es k) (holds x) e f in let a = p.each k l in elim (cases_eq a.0 e) [
      | inl q ↦ subst (λ v. holds x v ≡ true) q a.2
      | inr q ↦ absurd (holds_once x a.0 a.2 (t.1 a.0 a.1 q))
    ];
    free = λ x p k l. let a = p.each k l in contradicted_not (clause_at rs es k) x a.0 a.1 a.2;
    wholes = λ x pp kept free. record {
      whole = pp;
      each = λ k l. elim (every_or (λ f. holds x (contrary f)) (clause_at rs es k)) [
        | inl all ↦ absurd (both_ways _ (free k l) (every_from _ (clause_at rs es k) all))
        | inr a ↦ (
          a.0,
          a.1,
          (let i = in_to (clause_at rs es k) a.0 a.1 in
              either w x pp a.0 (subst (λ v. v < 2 * w) i.2 (clause_codes k l i.0 i.1)) a.2),
        )
      ];
    };
  }
