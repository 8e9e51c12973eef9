-- What the rules of a text leave in the tables, rule by rule, with no words and no phases.
use Rattle.std.proofs.Common.{List, [], ◌∷◌}
use Rattle.tables.specs.Feed.{Stage, Tables, Texts, Fed, on, numbered, headed, headless, entered_as, closed}
use Rattle.tables.specs.Reading.{carry}
use Rattle.tables.specs.Grammar as G
use Rattle.tables.specs.Grammar.{Entry, entry, Head, Rule, rule}

abbrev pub write_entry : Texts → Entry → Stage → Tables → Fed
write_entry x (entry sign b k) s t = numbered x b k (entered_as k sign) s t

abbrev pub write_body : Texts → List Entry → Stage → Tables → Fed
write_body x [] s t = on s t
write_body x (e ∷ es) s t = carry (write_body x es) (write_entry x e s t)

abbrev pub write_head : Texts → Head → Stage → Tables → Fed
write_head x (G.headed b k) s t = numbered x b k headed s t
write_head x G.headless s t = headless s t

-- the head, then the body, then the rule's own row
abbrev pub write_rule : Texts → Rule → Stage → Tables → Fed
write_rule x (rule h es j) s t = carry (closed j) (carry (write_body x es) (write_head x h s t))

abbrev pub written : Texts → List Rule → Stage → Tables → Fed
written x [] s t = on s t
written x (r ∷ rs) s t = carry (written x rs) (write_rule x r s t)
