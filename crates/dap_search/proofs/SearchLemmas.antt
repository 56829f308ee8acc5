-- Searches, and the hits that they take away.
use Rattle.std.proofs.Common.{◌≡◌, ◌∙◌, ◌≤◌, ◌<◌, ◌-◌, ℕ, zero, suc, List, [], ◌∷◌, Bool, true, false}
use Rattle.std.proofs.Common.{◌==◌, ◌||◌, not, if◌then◌else◌, Option, Some, None, is_some, unwrap_or, refl}
use Rattle.std.proofs.Common.{sym, ap, subst, arith, inl, inr}
use Rattle.std.specs.Bool.{⊤}
use Rattle.std.proofs.lemmas.Bool.{cases_lt, false≢true}
use Rattle.std.proofs.lemmas.Bool.Decides.{nat_tests}
use Rattle.lab_core.specs.Board.{Board}
use Rattle.lab_core.specs.Labs.{LabState}
use Rattle.lab_core.specs.Marks.{MarksState}
use Rattle.lab_core.specs.Moments.{MomentState, IsMomentOf, after_hold}
use Rattle.dap_slice.specs.declared.conditions.ConditionalBreakpoint.{ConditionalBreakpoint}
use Rattle.dap_slice.specs.declared.hits.Hits.{Hits}
use Rattle.dap_slice.specs.Counts.{without_hits}
use Rattle.dap_slice.specs.Tallies.{IsTallyOf, hits_in, less, without_tally}
use Rattle.dap_history.specs.declared.input.Recorded.{Recorded}
use Rattle.dap_history.specs.Runs.{board_at, after_rewind, detached_run}
use Rattle.dap_history.specs.Histories.{HasRun}
use Rattle.dap_history.proofs.HistoryLemmas.{same_moment}
use Rattle.dap_search.specs.declared.phase.Phase.{Phase}
use Rattle.dap_search.specs.declared.phase.Phase.TheVariants.{Find, RecountHits}
use Rattle.dap_search.specs.declared.scan.Scan.{Scan}
use Rattle.dap_search.specs.Goals.{Target, last_below, passes, goal_below}
use Rattle.dap_search.specs.Recounts.{hits_between, without_hits_between}
use Rattle.dap_search.specs.Scans.{is_recount, found_in, points_without, HasSeen, IsScanOf}
use Rattle.dap_search.specs.Searches.{SearchState, IsWindowOf, IsSearchOf, IsUnderWay, IsNext, counts_hits}
use Rattle.dap_search.proofs.FindLemmas.{last_within, zero_below}
use Rattle.dap_search.proofs.RecountLemmas.{on_other_board}

-- ---- a count that is known

here_if : (c n : ℕ) (last : ℕ) → (n == c) ≡ true → (if n == c then n else last) ≡ c
here_if c n last is = rw is (grind (arith, nat_tests))

pub last_count : (c n : ℕ) → c < n → last_below (λ m. m == c) n ≡ c
unfolding last_below
last_count c zero below = absurd (omega arith)
last_count c (suc n) below = elim (cases_lt c n) [
  | inl earlier ↦ (
      let isn't : (n == c) ≡ false = grind (arith, nat_tests) in
      rw isn't (last_count c n earlier)
      )
  | inr later ↦ (
      let same : n ≡ c = omega (arith, below, later) in
      let is : (n == c) ≡ true = grind (arith, nat_tests) in
      here_if c n (last_below (λ m. m == c) n) is
      )
]

pub goal_within : (target : Target) (start now : Board) (log : List Recorded) (n : ℕ)
    → goal_below target start log now n ≤ n
goal_within target start now log n = last_within (passes target start log now) n

-- ---- breakpoints that count no hits

less-nothing : (hits taken : Option Hits) → is_some hits ≡ false → less hits taken ≡ hits
less-nothing None taken isn't = refl
less-nothing (Some h) taken isn't = absurd cc

neither : (x y : Bool) → (x || y) ≡ false → (x ≡ false) × (y ≡ false)
neither false y is = (refl, is)
neither true y is = absurd cc

pub nothing_taken : (tally : List (Option Hits)) (points : List ConditionalBreakpoint)
    → counts_hits points ≡ false → without_tally tally points ≡ points
nothing_taken [] points uncounted = refl
nothing_taken (taken ∷ more) [] uncounted = refl
nothing_taken (taken ∷ more) (p ∷ ps) uncounted =
    let apart = neither (is_some p.hits) (counts_hits ps) uncounted in
    ap (λ h. record p { hits = h } ∷ without_tally more ps) (less-nothing p.hits taken apart.0)
    ∙ ap (λ qs. p ∷ qs) (nothing_taken more ps apart.1)

-- ---- the same run, put to another count

held_seen : (start was now : Board) (log : List Recorded) (target : Target) (low m : ℕ) (phase : Phase)
    (marks : MarksState) → HasSeen start log now target low m phase marks
    → HasSeen start log (after_rewind was now) target low m phase marks
held_seen start was now log target low m (Find goal best) marks seen = record {
  last = seen.last;
  marked = record { addresses = seen.marked.addresses; watches = seen.marked.watches };
  goal_is = seen.goal_is;
}
held_seen start was now log target low m (RecountHits tally) marks seen = record {
  after = seen.after;
  counted = subst (λ ps. IsTallyOf target.points ps tally)
      (on_other_board (without_hits target.points) start now (after_rewind was now) log low (m - low) refl)
      seen.counted;
  marked = seen.marked;
}

held_window : (start was now : Board) (log : List Recorded) (target : Target) (n : ℕ) (phase : Phase)
    (low high : ℕ) → IsWindowOf start log now target n phase low high
    → IsWindowOf start log (after_rewind was now) target n phase low high
held_window start was now log target n (Find goal best) low high is = is
held_window start was now log target n (RecountHits tally) low high is = is

-- a search is the same where the run was put to another count
pub held_search : (start was now : Board) (log : List Recorded) (target : Target) (n : ℕ) (s : SearchState)
    → IsSearchOf start log now target n s → IsSearchOf start log (after_rewind was now) target n s
held_search start was now log target n s is = record {
  scan = held_seen start was now log target s.low s.scan.at s.scan.phase s.scan.marks is.scan;
  window = held_window start was now log target n s.scan.phase s.low s.high is.window;
  within = is.within;
  count = is.count;
  here = is.here;
  home = is.home;
}

-- a run is held where it is
pub held_there : (was now : Board) → HasRun was now → after_hold now ≡ after_rewind was now
held_there was now run = rw (← run.machine, ← run.past, ← run.trace) refl

-- ---- a part

-- the scan goes on
pub scanned : (start now : Board) (log : List Recorded) (target : Target) (n : ℕ) (s : SearchState)
    (scan : Scan) (old new : LabState) → IsUnderWay start log now target n s old
    → IsScanOf start log now target s.low scan new → is_recount scan.phase ≡ is_recount s.scan.phase
    → scan.at ≤ s.high → IsUnderWay start log now target n (record s { scan = scan }) new
scanned start now log target n s scan old new way is kind within = record {
  search = record {
    scan = is.seen;
    window = still s.scan.phase scan.phase kind way.search.window;
    within = within;
    count = way.search.count;
    here = rw way.entered tt;
    home = way.search.home;
  };
  runs = is.runs;
  entered = way.entered;
}
  where
    still : (old new : Phase) → is_recount new ≡ is_recount old
        → IsWindowOf start log now target n old s.low s.high
        → IsWindowOf start log now target n new s.low s.high
    still (Find goal best) (Find goal' best') kind window = window
    still (Find goal best) (RecountHits tally') kind window = absurd cc
    still (RecountHits tally) (Find goal' best') kind window = absurd cc
    still (RecountHits tally) (RecountHits tally') kind window = window

-- the moment at which it is is kept
pub kept : (start now : Board) (log : List Recorded) (target : Target) (n : ℕ) (s : SearchState)
    (lab : LabState) (moment : MomentState) (way : IsUnderWay start log now target n s lab)
    → IsMomentOf moment (detached_run way.runs.0 (board_at start log s.scan.at) now)
    → IsSearchOf start log now target n (record s { here = Some moment })
kept start now log target n s lab moment way is = record {
  scan = way.search.scan;
  window = way.search.window;
  within = way.search.within;
  count = way.search.count;
  here = same_moment moment (detached_run way.runs.0 (board_at start log s.scan.at) now)
      (board_at start log s.scan.at) is refl refl refl;
  home = way.search.home;
}

-- ---- the end of a window

-- the best count, if the last one below `low` is 0
found_best : (low m : ℕ) (last : ℕ → ℕ) (best : Option ℕ) (is_start : Bool) → (low == 0) ≡ is_start
    → last 0 ≡ 0 → (if is_start then Some (unwrap_or best 0) else best) ≡ Some m
    → m ≡ unwrap_or best (last low)
found_best low m last (Some best) true is first found = cc
found_best low m last None true is first found =
    let start : low ≡ 0 = grind (arith, nat_tests) in
    let none : 0 ≡ m = cc in
    sym none ∙ sym first ∙ ap last (sym start)
found_best low m last (Some best) false is first found = cc
found_best low m last None false is first found = absurd cc

pub found_is : (start now : Board) (log : List Recorded) (target : Target) (n m : ℕ) (s : SearchState)
    → IsSearchOf start log now target n s → s.high ≤ s.scan.at → found_in s.low s.scan.phase ≡ Some m
    → m ≡ goal_below target start log now n
found_is start now log target n m s search end found =
    by s.scan.phase search.scan search.window found
  where
    last : ℕ → ℕ
    last = goal_below target start log now

    all : s.scan.at ≡ s.high
    all = let within = search.within in omega (arith, within, end)

    by : (phase : Phase) → HasSeen start log now target s.low s.scan.at phase s.scan.marks
        → IsWindowOf start log now target n phase s.low s.high → found_in s.low phase ≡ Some m → m ≡ last n
    by (Find goal best) seen above found =
        found_best s.low m last best (s.low == 0) refl (zero_below (passes target start log now)) found
        ∙ sym seen.last ∙ ap last all ∙ above
    by (RecountHits tally) seen behind found =
        let low : s.low ≡ m = cc in
        sym low ∙ behind.0

-- no count passes in the window
abbrev pub HasNone : Phase → Type 0
HasNone (Find goal None) = ⊤
HasNone (Find goal (Some m)) = ⊥
HasNone (RecountHits tally) = ⊥

none_in : (low : ℕ) (phase : Phase) → found_in low phase ≡ None → HasNone phase
none_in low (RecountHits tally) none = absurd cc
none_in low (Find goal best) none = by best (low == 0) none
  where
    by : (best : Option ℕ) (is_start : Bool) → (if is_start then Some (unwrap_or best 0) else best) ≡ None
        → HasNone (Find goal best)
    by None is_start none = tt
    by (Some m) true none = absurd cc
    by (Some m) false none = absurd cc

-- the next window is the one below
pub below : (start now : Board) (log : List Recorded) (target : Target) (n low : ℕ) (s : SearchState)
    → s.here ≡ None → s.high ≤ s.scan.at → found_in s.low s.scan.phase ≡ None → low ≤ s.low
    → IsSearchOf start log now target n s
    → IsSearchOf start log now target n
    (record s { scan = record s.scan { at = low }; low = low; high = s.low })
below start now log target n low s entered end none within search =
    let windows = by s.scan.phase (none_in s.low s.scan.phase none) search.scan search.window in
    record {
      scan = windows.0;
      window = windows.1;
      within = within;
      count = search.count;
      here = rw entered tt;
      home = search.home;
    }
  where
    last : ℕ → ℕ
    last = goal_below target start log now

    all : s.scan.at ≡ s.high
    all = let within = search.within in omega (arith, within, end)

    by : (phase : Phase) → HasNone phase → HasSeen start log now target s.low s.scan.at phase s.scan.marks
        → IsWindowOf start log now target n phase s.low s.high
        → HasSeen start log now target low low phase s.scan.marks
        × IsWindowOf start log now target n phase low s.low
    by (Find goal None) none seen above = (
      record { last = refl; marked = seen.marked; goal_is = seen.goal_is },
      sym seen.last ∙ ap last all ∙ above,
    )
    by (Find goal (Some m)) none seen above = absurd none
    by (RecountHits tally) none seen behind = absurd none

-- of a recount, which is for all steps behind the goal
pub recount_window : (start now : Board) (log : List Recorded) (target : Target) (n low high : ℕ)
    (phase : Phase) → is_recount phase ≡ true → low ≡ goal_below target start log now n → high ≡ n
    → IsWindowOf start log now target n phase low high
recount_window start now log target n low high (Find goal best) kind is end = absurd (false≢true kind)
recount_window start now log target n low high (RecountHits tally) kind is end = (is, end)

-- the hits behind the count that was found are counted from here on
pub recounts : (start now : Board) (log : List Recorded) (target : Target) (n found : ℕ) (s : SearchState)
    (scan : Scan) → s.here ≡ None → found ≡ goal_below target start log now n → scan.at ≡ found
    → is_recount scan.phase ≡ true → HasSeen start log now target found scan.at scan.phase scan.marks
    → IsSearchOf start log now target n s
    → IsSearchOf start log now target n (record s { scan = scan; low = found; high = s.count })
recounts start now log target n found s scan entered is at kind seen search = record {
  scan = seen;
  window = recount_window start now log target n found s.count scan.phase kind is search.count;
  within =
      let count = search.count in
      let below = goal_within target start now log n in
      omega (arith, at, is, count, below);
  count = search.count;
  here = rw entered tt;
  home = search.home;
}

-- the count was found, and the hits behind it are counted, if any breakpoint counts them
pub all_found : (start now : Board) (log : List Recorded) (target : Target) (n m : ℕ) (s : SearchState)
    → IsSearchOf start log now target n s → s.high ≤ s.scan.at → found_in s.low s.scan.phase ≡ Some m
    → (is_recount s.scan.phase || not (counts_hits target.points)) ≡ true
    → IsNext start log now target n s (Some m)
all_found start now log target n m s search end found last = (
  found_is start now log target n m s search end found,
  by s.scan.phase search.scan search.window found last,
)
  where
    points : List ConditionalBreakpoint
    points = target.points

    all : s.scan.at ≡ s.high
    all = let within = search.within in omega (arith, within, end)

    uncounted : (counts : Bool) → (false || not counts) ≡ true → counts ≡ false
    uncounted true is = absurd (false≢true is)
    uncounted false is = refl

    by : (phase : Phase) → HasSeen start log now target s.low s.scan.at phase s.scan.marks
        → IsWindowOf start log now target n phase s.low s.high → found_in s.low phase ≡ Some m
        → (is_recount phase || not (counts_hits points)) ≡ true
        → points_without phase points ≡ without_hits_between points start log now m n
    by (Find goal best) seen above found last =
        sym (nothing_taken (hits_in (hits_between points start log now m n)) points
        (uncounted (counts_hits points) last))
    by (RecountHits tally) seen behind found last =
        let low : s.low ≡ m = cc in
        ap (λ taken. without_tally taken points) seen.counted.hits
        ∙ ap (λ c. without_hits_between points start log now c s.scan.at) low
        ∙ ap (λ c. without_hits_between points start log now m c) (all ∙ behind.1)
