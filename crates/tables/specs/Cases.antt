-- Small texts, read by computing.
use Rattle.std.specs.Prelude.{◌≡◌, [], ◌∷◌, replicate, Ok, Err, codes, refl}
use Rattle.words.specs.Words.{name, negation, arrow, point}
use Rattle.words.specs.Running.{running, more, ended}
use Rattle.tables.specs.declared.Cause.TheVariants.{OutOfPlace}
use Rattle.tables.specs.declared.Owner.TheVariants.{Region}
use Rattle.tables.specs.Feed.{Tables}
use Rattle.tables.specs.Draft.{Counts, read_of}
use Rattle.rulebook.specs.Rows.{blank}
use Rattle.tables.specs.Names.{blank_name}

pub words_of : running (codes "a :- not b.") 0 ≡ more (name (codes "a")) 0 (more arrow 2 (more negation 5 (more (name (codes "b")) 9 (more point 10 ended))))
unfolding running
words_of = refl

abbrev room : Tables
room = record { names = replicate 4 blank_name; rules = replicate 4 blank; entries = replicate 4 0 }

abbrev fresh : Counts
fresh = record { texts = 0; names = 0; rules = 0; entries = 0 }

pub two_rules : read_of fresh (codes "a :- not b. b :- not a.") [] room
    ≡ record {
      result = Ok tt;
      counts = record { texts = 1; names = 2; rules = 2; entries = 2 };
      tables = record {
        names = record { text = 0; first = 0; size = 1 } ∷ (record { text = 0; first = 9; size = 1 } ∷ replicate 2 blank_name);
        rules = record { head = 0; first = 0; count = 1 } ∷ (record { head = 1; first = 1; count = 1 } ∷ replicate 2 blank);
        entries = 3 ∷ (1 ∷ replicate 2 0);
      };
    }
unfolding running
two_rules = refl

pub out_of_place : read_of fresh (codes "a. \n :- .") [] room ≡ record { result = Err (record { cause = OutOfPlace; text = Region; byte = 8; line = 2 }); counts = fresh; tables = room }
unfolding running
out_of_place = refl

pub second_text : read_of (record { texts = 1; names = 1; rules = 0; entries = 0 }) (codes "b:-a.") (codes "  a.") (record { names = record { text = 0; first = 2; size = 1 } ∷ replicate 3 blank_name; rules = replicate 4 blank; entries = replicate 4 0 })
    ≡ record {
      result = Ok tt;
      counts = record { texts = 2; names = 2; rules = 1; entries = 1 };
      tables = record {
        names = record { text = 0; first = 2; size = 1 } ∷ (record { text = 1; first = 0; size = 1 } ∷ replicate 2 blank_name);
        rules = record { head = 1; first = 0; count = 1 } ∷ replicate 3 blank;
        entries = 0 ∷ replicate 3 0;
      };
    }
unfolding running
second_text = refl
