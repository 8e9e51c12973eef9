-- What is left after a fault.
use Rattle.std.proofs.Common.{◌≡◌, ℕ, List, length, None, Err, sym, refl, ap, ◌∙◌, subst, arith}
use Rattle.words.specs.Running.{running}
use Rattle.tables.specs.declared.Cause.{Cause}
use Rattle.tables.specs.declared.Fault.{Fault}
use Rattle.tables.specs.Feed.{Tables, off}
use Rattle.tables.specs.Reading.{run}
use Rattle.tables.specs.Draft.{Counts, Outcome, line_of, owner_after, cleared_tables, texts_for, stage_from, refusal_of, settled, read_if, read_of}
use Rattle.tables.proofs.Keeping.{Keeps, run_keeps}

abbrev pub stopped : Counts → Fault → Tables → Outcome
stopped d f t = record { result = Err f; counts = d; tables = t }

pub faulted : (d : Counts) (text earlier : List ℕ) (t t' t'' : Tables) (c : Cause) (at : ℕ) (f : Fault)
    → refusal_of d text t ≡ None
    → off c at t' ≡ run (texts_for d.texts text earlier) (length text) (stage_from d) t (running text 0)
    → t'' ≡ cleared_tables d t' → f ≡ record { cause = c; text = owner_after d.texts; byte = at; line = line_of text at } → stopped d f t'' ≡ read_of d text earlier t
faulted d text earlier t t' t'' c at f h e z l =
    let k = run_keeps d (cleared_tables d t) (texts_for d.texts text earlier) (length text) (running text 0) (stage_from d) t (record { names = omega arith; rules = omega arith; entries = omega arith }) refl in
    let m : cleared_tables d t' ≡ cleared_tables d t = subst (Keeps d (cleared_tables d t)) (sym e) k in
    (λ i. stopped d (l i) ((z ∙ m) i)) ∙ ap (settled d text t) e ∙ sym (ap (read_if d text earlier t) h)
