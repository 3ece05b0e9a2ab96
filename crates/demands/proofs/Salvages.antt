-- What is promised of a salvage. Assumes nothing.
use Prim.Native.Nat.{ℕ, ◌+◌, ◌≤◌}
use native.Mathlib.Omega.{arith}
use mathlib.Core.Path.{◌≡◌, subst}
use mathlib.Core.List.{List}
use lib.ListN.{length}
use Rattle.search.proofs.Lists.{all_map}
use Rattle.table.specs.Bytes.{word}
use Rattle.table.specs.Record.{length_at}
use Rattle.table.specs.Read.{empty}
use Rattle.table.proofs.Accepted.{accepted-short}
use Rattle.table.proofs.Widths.{limit-most}
use Rattle.slices.proofs.Cuts.{cut-long}
use Rattle.salvaging.specs.Kept.{kept_places}
use Rattle.salvaging.specs.Salvage.{record_at}
use Rattle.salvaging.specs.Steps.{Walks}
use Rattle.salvaging.proofs.Stepping.{kept_walks, walks_only}
use Rattle.salvaging.proofs.Results.{kept_there, kept-bytes, kept-accepted, kept-rows, kept-short, list-short}
use Rattle.salvaging.proofs.Covers.{covered, skipped-apart}
use Rattle.salvaging.proofs.Skips.{none_missed}
use Rattle.salvaging.proofs.Back.{all-kept, comes_back, skips-end, skips-none, same-again}
use Rattle.salvaging.proofs.Answers.{too_long, nothing_kept, no_room_holds, has-room, leaves}
use Rattle.demands.specs.Chains.{IsTable}
use Rattle.demands.specs.Salvages.{Salvageable, Salvaging}
use Rattle.demands.proofs.Chains.{table-good}

-- something of an accepted table is kept, and it is short enough
table_salvageable : {s : List ℕ} → IsTable s → Salvageable s
table_salvageable {s} h = record {
  bytes = h.bytes;
  short = omega (arith, accepted-short s h.accepted, limit-most (word 2 s 0));
  some = omega (arith, all-kept s h.bytes h.accepted, (table-good h).some);
}

pub salvaging : Salvaging
salvaging = record {
  cover = covered;
  longest = skipped-apart;
  stands = λ s. all_map {P = λ place. place + length_at s place ≤ length s} {Q = λ place. (place + length_at s place ≤ length s) × (length (record_at s place) ≡ length_at s place)}
      (λ place there. (there, cut-long s place there)) (kept_places s) (kept_there s);
  table = λ {s} h. record { bytes = kept-bytes s h.bytes; accepted = kept-accepted s h.bytes h.some };
  chains = λ {s} h. kept-rows s h.bytes h.some;
  none_missed = none_missed;
  walk = λ s places. (λ e. subst (Walks s 0 empty) e (kept_walks s), walks_only s places);
  back = λ {s} h. (table_salvageable h, comes_back s h.bytes h.accepted);
  end_alone = λ {s} h. skips-end s h.bytes h.accepted;
  nothing_skipped = λ {s} h. skips-none s h.bytes h.accepted;
  room = λ {s} h tableRoom listRoom l m. has-room tableRoom listRoom s h.short h.some (omega (arith, l, kept-short s h.bytes h.some)) (omega (arith, m, list-short s));
  written = λ c. leaves c;
  again = λ {s} h. same-again s h.bytes h.some;
  too_long = λ s l tableRoom listRoom. too_long tableRoom listRoom s l;
  nothing_kept = λ s l e tableRoom listRoom. nothing_kept tableRoom listRoom s l e;
  no_room_holds = λ {s} h tableRoom listRoom. no_room_holds tableRoom listRoom s h.short h.some;
  enough = λ {s} h tableRoom listRoom. has-room tableRoom listRoom s h.short h.some;
}
