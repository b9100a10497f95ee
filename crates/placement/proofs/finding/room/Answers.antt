use Rattle.std.proofs.Common.{sym, unwrap_or, arith}
use Rattle.placement.proofs.Rooms.{Searches, got, no_room, none_zero, room_second, room_third, second_small, some_above, too_small}
use Rattle.placement.proofs.finding.room.Goals as goal

pub returns-then-is_some-clause-found : goal.returns-then-is_some-clause-found
returns-then-is_some-clause-found g c =
    let e = c.first_fit-first.ensures in
    let S : Searches c.args.need _ (unwrap_or c.first_fit-first.result 0) _ = record { finds = e.finds; leaves = e.leaves } in
    λ A o s some fit. got _ A o _ _ s _ S some (some_above _ e.small (sym c.if-is_some.ensures)) _

pub returns-then-is_some-clause-none : goal.returns-then-is_some-clause-none
returns-then-is_some-clause-none g c =
    let e = c.first_fit-first.ensures in
    let S : Searches c.args.need _ (unwrap_or c.first_fit-first.result 0) _ = record { finds = e.finds; leaves = e.leaves } in
    λ A o s few. absurd (omega (arith, some_above _ e.small (sym c.if-is_some.ensures), too_small _ A o _ _ s _ S few))

pub returns-then-is_some-2-clause-found : goal.returns-then-is_some-2-clause-found
returns-then-is_some-2-clause-found g c =
    let e = c.first_fit-first.ensures in
    let f = c.first_fit-second.ensures in
    let S : Searches c.args.need _ (unwrap_or c.first_fit-first.result 0) _ = record { finds = e.finds; leaves = e.leaves } in
    let T : Searches c.args.need _ (unwrap_or c.first_fit-second.result 0) _ = record { finds = f.finds; leaves = f.leaves } in
    λ A o s some fit.
    room_second _ A o some _ _ _ _ s _ _ S (none_zero _ (sym c.if-is_some.ensures)) c.combine.ensures.combines T
    (some_above _ f.small (sym c.if-is_some-2.ensures))

pub returns-then-is_some-2-clause-none : goal.returns-then-is_some-2-clause-none
returns-then-is_some-2-clause-none g c =
    let e = c.first_fit-first.ensures in
    let f = c.first_fit-second.ensures in
    let S : Searches c.args.need _ (unwrap_or c.first_fit-first.result 0) _ = record { finds = e.finds; leaves = e.leaves } in
    let T : Searches c.args.need _ (unwrap_or c.first_fit-second.result 0) _ = record { finds = f.finds; leaves = f.leaves } in
    λ A o s few.
    absurd (omega (
      arith,
      some_above _ f.small (sym c.if-is_some-2.ensures),
      second_small _ A o (omega arith) _ _ _ _ s _ _ S (none_zero _ (sym c.if-is_some.ensures)) c.combine.ensures.combines T few,
    ))

pub returns-clause-found : goal.returns-clause-found
returns-clause-found g c =
    let e = c.first_fit-first.ensures in
    let f = c.first_fit-second.ensures in
    let h = c.first_fit.ensures in
    let S : Searches c.args.need _ (unwrap_or c.first_fit-first.result 0) _ = record { finds = e.finds; leaves = e.leaves } in
    let T : Searches c.args.need _ (unwrap_or c.first_fit-second.result 0) _ = record { finds = f.finds; leaves = f.leaves } in
    let U : Searches c.args.need _ (unwrap_or c.first_fit.result 0) _ = record { finds = h.finds; leaves = h.leaves } in
    λ A o s some fit.
    room_third _ A o some _ _ _ _ s _ _ S (none_zero _ (sym c.if-is_some.ensures)) c.combine.ensures.combines T
    (none_zero _ (sym c.if-is_some-2.ensures)) _ _ _ c.tidy.ensures.words U fit

pub returns-clause-none : goal.returns-clause-none
returns-clause-none g c =
    let e = c.first_fit-first.ensures in
    let f = c.first_fit-second.ensures in
    let h = c.first_fit.ensures in
    let S : Searches c.args.need _ (unwrap_or c.first_fit-first.result 0) _ = record { finds = e.finds; leaves = e.leaves } in
    let T : Searches c.args.need _ (unwrap_or c.first_fit-second.result 0) _ = record { finds = f.finds; leaves = f.leaves } in
    let U : Searches c.args.need _ (unwrap_or c.first_fit.result 0) _ = record { finds = h.finds; leaves = h.leaves } in
    λ A o s few.
    no_room _ A o (omega arith) _ _ _ _ s _ _ S (none_zero _ (sym c.if-is_some.ensures)) c.combine.ensures.combines T
    (none_zero _ (sym c.if-is_some-2.ensures)) _ _ _ c.tidy.ensures.words U few
