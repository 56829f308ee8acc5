-- Which breakpoints on data are watched.
use Rattle.std.proofs.Common.{◌≡◌, ◌+◌, ℕ, zero, suc, List, [], ◌∷◌, inl, inr, refl, sym, ap, ◌∙◌}
use Rattle.std.proofs.Common.{Bool, true, false, if◌then◌else◌, Option, Some, None, arith}
use Rattle.std.proofs.lemmas.List.Elements.{Contains-append_left, Contains-append_right}
use Rattle.std.proofs.lemmas.List.Elements.{Contains-append_cases}
use Rattle.std.specs.Prelude.{slice_get, nat_lt, codes}
use Rattle.std.specs.List.{Contains, filter_map}
use Rattle.lab_shown.specs.declared.place.Place.{Place}
use Rattle.lab_core.specs.Board.{Board}
use Rattle.dap_slice.specs.declared.conditions.ConditionalBreakpoint.{ConditionalBreakpoint}
use Rattle.dap_slice.specs.declared.conditions.Trigger.TheVariants.{Change}
use Rattle.dap_messages.specs.declared.message.BreakpointNote.{BreakpointNote}
use Rattle.dap_messages.specs.declared.message.BreakpointNote.TheVariants.{Wrong, TooManyData}
use Rattle.dap_messages.specs.declared.message.PlacedBreakpoint.{PlacedBreakpoint}
use Rattle.dap_requests.specs.declared.request.DataBreakpoint.{DataBreakpoint}
use Rattle.dap_points.specs.declared.placed.CheckedData.{CheckedData}
use Rattle.dap_points.specs.Placed.{id_at, unmet_at, met_where, data_point_unless, data_point}
use Rattle.dap_conditions.specs.Conditions.{objection, stop_at, stop_by}
use Rattle.dap_breakpoints.specs.declared.place.DataPlace.{DataPlace}
use Rattle.dap_breakpoints.specs.Places.{data_named, places_of}
use Rattle.dap_breakpoints.specs.Data.{objection_at, data_objection, checked_on, points_on}
use Rattle.dap_breakpoints.specs.Data.{watches_at, watches_of, watches_by, watches_on}
use Rattle.dap_breakpoints.specs.Laws.{IsToldAs, HoldsOfVerified, HoldsOfEachVerified, AreAllWatched}
use Rattle.dap_breakpoints.specs.Laws.{IsWatchOf}
use Rattle.dap_breakpoints.proofs.ToldLemmas.{in_all, from_all, told_is, Stops, stops_if}

-- ---- watches of a list

-- those of a breakpoint are among those of all
in_by : (ds : List DataBreakpoint) (ps : List PlacedBreakpoint) (i : ℕ) (d : DataBreakpoint)
    (p : PlacedBreakpoint) (w : ConditionalBreakpoint)
    → slice_get ds i ≡ Some d → slice_get ps i ≡ Some p → Contains (watches_of d p) w
    → Contains (watches_by ds ps) w
in_by [] ps i d p w asked told has = absurd cc
in_by (x ∷ xs) [] i d p w asked told has = absurd cc
in_by (x ∷ xs) (y ∷ ys) zero d p w asked told has =
    let this : x ≡ d = cc in
    let that : y ≡ p = cc in
    Contains-append_left (watches_of x y) (watches_by xs ys) w (rw (this, that) has)
in_by (x ∷ xs) (y ∷ ys) (suc i) d p w asked told has =
    Contains-append_right (watches_of x y) (watches_by xs ys) w (in_by xs ys i d p w asked told has)

-- each of them is of a breakpoint
record IsOfPair (ds : List DataBreakpoint) (ps : List PlacedBreakpoint) (w : ConditionalBreakpoint)
    : Type 0 where
  item : DataBreakpoint
  point : PlacedBreakpoint
  told : IsToldAs ds ps item point
  has : Contains (watches_of item point) w

from_by : (ds : List DataBreakpoint) (ps : List PlacedBreakpoint) (w : ConditionalBreakpoint)
    → Contains (watches_by ds ps) w → IsOfPair ds ps w
from_by [] ps w has = absurd (omega (arith, has.1))
from_by (d ∷ ds) [] w has = absurd (omega (arith, has.1))
from_by (d ∷ ds) (p ∷ ps) w has =
    elim (Contains-append_cases (watches_of d p) (watches_by ds ps) w has) [
      | inl here ↦ record {
        item = d;
        point = p;
        told = record { index = zero; of_request = refl; of_answer = refl };
        has = here;
      }
      | inr later ↦ (
          let one = from_by ds ps w later in record {
            item = one.item;
            point = one.point;
            told = record {
              index = suc one.told.index;
              of_request = one.told.of_request;
              of_answer = one.told.of_answer;
            };
            has = one.has;
          })
    ]

-- ---- a verified one

few_if : (few : Bool) (n : ℕ) (c : CheckedData)
    → (if few then met_where (id_at 1025 n) None c.options
    else unmet_at (id_at 1025 n) None TooManyData).is_verified ≡ true
    → (if few then met_where (id_at 1025 n) None c.options
    else unmet_at (id_at 1025 n) None TooManyData).options ≡ c.options
few_if true n c is = refl
few_if false n c is = absurd cc

-- there is nothing to object to it, and it has the options of the request
fine_if : (o : Option BreakpointNote) (n : ℕ) (c : CheckedData)
    → (data_point_unless o n c).is_verified ≡ true
    → (o ≡ None) × ((data_point_unless o n c).options ≡ c.options)
fine_if (Some why) n c is = absurd cc
fine_if None n c is = (refl, few_if (nat_lt n 16) n c is)

place_if : (b : Board) (d : DataBreakpoint) (is_write : Bool) (found : Option DataPlace)
    → (if is_write then objection_at b d found else Some (Wrong (codes "only writes are watched"))) ≡ None
    → (place : DataPlace) × (found ≡ Some place) × (objection b d.options d.has_texts ≡ None)
place_if b d false found none = absurd cc
place_if b d true None none = absurd cc
place_if b d true (Some place) none = (place, refl, none)

-- where it is watched, and by what
record IsWatched (d : DataBreakpoint) (p : PlacedBreakpoint) : Type 0 where
  place : DataPlace
  place_is : data_named d.data_id ≡ Some place
  stops : Stops d.options
  stop : (at : Place)
      → stop_by p.id (Change at) p.options ≡ Some (stop_at p.id (Change at) stops.condition stops.hits)
  watches : watches_of d p ≡ filter_map (λ at. stop_by p.id (Change at) p.options) (places_of place)

watched_by : (d : DataBreakpoint) (p : PlacedBreakpoint) (place : DataPlace) (stops : Stops d.options)
    → data_named d.data_id ≡ Some place → p.is_verified ≡ true → p.options ≡ d.options → IsWatched d p
watched_by d p place stops place_is is options = record {
  place = place;
  place_is = place_is;
  stops = stops;
  stop = λ at. rw options (stops.stop p.id (Change at));
  watches = rw (is, place_is) refl;
}

watched_if : (b : Board) (ds : List DataBreakpoint) (d : DataBreakpoint) (p : PlacedBreakpoint)
    → IsToldAs ds (points_on b ds) d p → p.is_verified ≡ true → IsWatched d p
watched_if b ds d p told is =
    let same = told_is data_point (checked_on b) ds d p told in
    let verified : (data_point (0 + told.index) (checked_on b d)).is_verified ≡ true = rw same is in
    let fine = fine_if (data_objection b d) (0 + told.index) (checked_on b d) verified in
    let at = place_if b d d.is_write (data_named d.data_id) fine.0 in
    watched_by d p at.0 (stops_if b d.options d.has_texts at.2) at.1 is
    (ap (λ (p : PlacedBreakpoint). p.options) (sym same) ∙ fine.1)

verified_if : (is : Bool) (watches : List ConditionalBreakpoint) (w : ConditionalBreakpoint)
    → Contains (if is then watches else []) w → is ≡ true
verified_if true watches w has = refl
verified_if false watches w has = absurd (omega (arith, has.1))

-- ---- the two laws

pub verified_is_watched : (b : Board) (ds : List DataBreakpoint)
    → HoldsOfEachVerified ds (points_on b ds) (AreAllWatched (watches_on b ds))
verified_is_watched b ds d p told is =
    let this = watched_if b ds d p told is in (
      this.place,
      this.stops.condition,
      this.stops.hits,
      this.place_is,
      this.stops.read,
      λ at has.
          (let stop = stop_at p.id (Change at) this.stops.condition this.stops.hits in
          in_by ds (points_on b ds) told.index d p stop told.of_request told.of_answer
          (rw this.watches (in_all (λ at. stop_by p.id (Change at) p.options) (places_of this.place) at stop
          has (this.stop at)))),
    )

pub others_are_not : (b : Board) (ds : List DataBreakpoint) (w : ConditionalBreakpoint)
    → Contains (watches_on b ds) w → HoldsOfVerified ds (points_on b ds) (IsWatchOf w)
others_are_not b ds w has =
    let one = from_by ds (points_on b ds) w has in
    let p = one.point in
    let is = verified_if p.is_verified (watches_at p (data_named one.item.data_id)) w one.has in
    let this = watched_if b ds one.item p one.told is in
    let here = from_all (λ at. stop_by p.id (Change at) p.options) (places_of this.place) w
    (rw (← this.watches) one.has) in
    let stop = this.stop here.item in
    let same : w ≡ stop_at p.id (Change here.item) this.stops.condition this.stops.hits = cc (here.gives) in (
      one.item,
      p,
      one.told,
      is,
      (
        this.place,
        this.stops.condition,
        this.stops.hits,
        here.item,
        this.place_is,
        this.stops.read,
        here.has,
        same,
      ),
    )
