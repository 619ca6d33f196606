use Rattle.std.proofs.Common.{◌≡◌, [], ◌∷◌, ◌++◌, sym, ap, ◌∙◌}
use Rattle.turn_lock.specs.Seats.{seat_view}
use Rattle.phase_shared.specs.Views.{resting, known_of, speaks_of, first_part, other_part}
use Rattle.phase_shared.specs.declared.seats.view.View.{View}
use Rattle.phase_shared.specs.declared.seats.view.View.TheVariants.{Resting}
use Rattle.phase_shared.proofs.seats.steps.meet.Given.{Over}
use Rattle.phase_shared.proofs.seats.steps.meet.Goals.{After-join-both}
use Rattle.phase_shared.proofs.seats.steps.meet.Goals as goal

pub join-both-requires : goal.join-both-requires
join-both-requires g c =
    let one = c.requires.seat.knows.rests in
    let other = c.requires.other.knows.rests in
    record {
      seat = record { here = c.requires.seat.here; knows = one ∙ sym (ap (λ (v : View). Resting (known_of v)) one) };
      other = record { here = c.requires.other.here; knows = other ∙ sym (ap (λ (v : View). Resting (known_of v)) other) };
    }

-- the joined seat has seen what both learn, and speaks for both
joined : (g : Over) (c : After-join-both g) → seat_view c.join-both.result
    ≡ resting c.join-both.ensures.knows.now (c.requires.seat.knows.task ∷ c.requires.other.knows.task ∷ [])
joined g c =
    let one = ap speaks_of c.requires.seat.knows.rests in
    let other = ap speaks_of c.requires.other.knows.rests in
    c.join-both.ensures.knows.is
    ∙ (λ i. resting c.join-both.ensures.knows.now ((known_of (c.requires.seat.knows.rests i)).speaks ++ (known_of (c.requires.other.knows.rests i)).speaks))

pub split-requires : goal.split-requires
split-requires g c =
    let one = c.requires.seat.knows.task in
    let other = c.requires.other.knows.task in
    let is = joined g (goal.at.split-requires g c).After-join-both in
    record {
      here = c.join-both.ensures.here;
      knows = record { one = one; other = other; rests = is ∙ sym (ap (λ (v : View). resting (known_of v).seen (one ∷ other ∷ [])) is) };
    }

pub returns : goal.returns
returns g c =
    let rule = c.join-both.ensures.knows in
    let is = joined g (goal.at.returns g c).After-join-both in
    let mine = ap (λ (v : View). (known_of v).speaks) c.requires.seat.knows.rests in
    let yours = ap (λ (v : View). (known_of v).speaks) c.requires.other.knows.rests in
    record {
      now = rule.now;
      left = record { here = c.split.ensures.left.here; knows = c.split.ensures.left.knows ∙ ap first_part is ∙ ap (λ speaks. resting rule.now speaks) (sym mine) };
      right = record { here = c.split.ensures.right.here; knows = c.split.ensures.right.knows ∙ ap other_part is ∙ ap (λ speaks. resting rule.now speaks) (sym yours) };
      begins = (rule.first, rule.second);
      distinct = rule.distinct;
      good = rule.good;
    }
