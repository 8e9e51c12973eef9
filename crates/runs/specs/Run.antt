-- Calls put one after the other, and their replies.
use Rattle.std.specs.Prelude.{◌≡◌, ℕ, List, [], ◌∷◌, Ok, Err, Result, reverse, length, drop}
use Rattle.uses.specs.Model.{State, begin, settle, settle_by, pin, tell, tally, refused, done, settled, told, tallied, word_number}
use Rattle.uses.specs.Model
use Rattle.uses.specs.Use.{Event, event, Use}
use Rattle.uses.specs.Law.{Kept}
use Rattle.uses.specs.declared.SheetRefusal.{SheetRefusal}
use Rattle.runs.specs.declared.call.Call.{Call}
use Rattle.runs.specs.declared.call.Call.TheVariants.{Begin, Settle, SettleBy, Pin, Tell, Tally}
use Rattle.runs.specs.declared.call.Reply.{Reply}
use Rattle.runs.specs.declared.call.Reply.TheVariants.{Done, Settled, Told, Tallied}

-- the call that a value stands for
abbrev pub call_of : Call → Model.Call
call_of (Begin c) = begin c.now
call_of (Settle g) = settle g.now
call_of (SettleBy n size) = settle_by n.now size
call_of (Pin s way) = pin s way
call_of (Tell s) = tell s
call_of Tally = tally

-- the answer that a reply stands for
abbrev pub good_reply : Reply → Model.Reply
good_reply Done = done
good_reply (Settled n) = settled n
good_reply (Told v) = told (word_number v)
good_reply (Tallied t) = tallied t.open t.certain t.loose

-- the answer that a value stands for
abbrev pub reply_of : Result Reply SheetRefusal → Model.Reply
reply_of (Ok r) = good_reply r
reply_of (Err e) = refused e

-- each call with its reply, as far as both lists go
abbrev pub happened : List Call → List (Result Reply SheetRefusal) → List Event
happened [] rs = []
happened (c ∷ cs) [] = []
happened (c ∷ cs) (r ∷ rs) = event (call_of c) (reply_of r) ∷ happened cs rs

-- a run of the calls from the making on, which ends in the sheet m: as many were made as have a place for the reply; `before` and `after` are these places
pub record Ran (w : ℕ) (plan : List ℕ → Type 0) (calls : List Call) (before after : List (Result Reply SheetRefusal)) (made : ℕ) (m : State) : Type 0 where
  pub number : made ≡ length (happened calls before)
  pub same : length after ≡ length before
  -- the places past those calls are as before
  pub rest : drop made after ≡ drop made before
  -- the calls made, with the replies written, are a use that leads to this sheet
  pub is_use : Use w plan (reverse (happened calls after)) m
  -- and the whole law holds of it
  pub law : Kept w plan (reverse (happened calls after)) m
