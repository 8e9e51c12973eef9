-- From the first plan that meets the group and agrees with the pins to the first that serves.
use Rattle.std.proofs.Common.{ℕ, List, Ok, Err, Result}
use Rattle.source.specs.declared.Refusal.{Refusal}
use Rattle.source.specs.declared.Refusal.TheVariants.{Length, Value, Mark, Wide}
use Rattle.source.specs.declared.Answer.{Answer}
use Rattle.source.specs.declared.Answer.TheVariants.{Plan, Nothing}
use Rattle.source.specs.Plans.{Of}
use Rattle.source.specs.Asked.{Taken, Asked}
use Rattle.base.specs.Laws.{Out, Lawful}
use Rattle.narrow.specs.Meeting.{MeetingPlan}
use Rattle.first.specs.Tree.{Below}
use Rattle.walk.specs.Finding.{Unfit, FirstOf, FirstAgreeing}
use Rattle.search.specs.Asking.{Serving, FirstAsked}

module _ (w : ℕ) (plan : List ℕ → Type 0) (o : List ℕ → Out) (laws : Lawful w plan o) (pins group before after : List ℕ) (t : Taken w pins group before) where
  -- the plans that meet the group and agree with the pins are those that serve
  meeting_serves : (a : Answer) → FirstOf (Below (MeetingPlan plan group) pins) before a after → FirstOf (Serving (Of w plan) pins group) before a after
  meeting_serves Plan f = record {
    good = ((f.good.0.0, laws.shaped after f.good.0.0), (f.good.1, f.good.0.1));
    least = λ x s. f.least x ((s.0.0, s.1.1), s.1.0);
  }
  meeting_serves Nothing f = ((λ x s. f.0 x ((s.0.0, s.1.1), s.1.0)), f.1)

  -- a question that is taken fits
  not_unfit : (e : Refusal) → Unfit w pins before e → ⊥
  not_unfit Length u = u (t.0.0, t.0.2)
  not_unfit Value u = u.2 t.1
  not_unfit Mark u = u
  not_unfit Wide u = u

  pub first_serves : (r : Result Answer Refusal) → FirstAgreeing w (MeetingPlan plan group) pins before r after → FirstAsked w (Of w plan) pins group before r after
  first_serves (Err e) f = absurd (not_unfit e f.0)
  first_serves (Ok a) f = (t, meeting_serves a f.1)

-- the first plan that serves is one that serves, and none is none
pub first_asked : (w : ℕ) (plan : List ℕ → Type 0) (pins group before after : List ℕ) (r : Result Answer Refusal)
    → FirstAsked w plan pins group before r after → Asked w plan pins group before r after
first_asked w plan pins group before after (Err e) f = f
first_asked w plan pins group before after (Ok Plan) f = (f.0, f.1.good.0, f.1.good.1)
first_asked w plan pins group before after (Ok Nothing) f = (f.0, (λ p a s. f.1.0 p (a, s)), f.1.1)
