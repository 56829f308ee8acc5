-- Which posts are known not to be a running cell's: a request makes three.
use Rattle.std.specs.Prelude.{◌≡◌, ℕ, ◌-◌, ◌*◌, ◌^◌, ◌<◌, min, false}
use Rattle.kern_waits.specs.declared.wakeups.KnownPosts.{KnownPosts}

-- how many posts there are after those that are known
abbrev pub posts_since : KnownPosts → ℕ → ℕ
posts_since known next = next - known.next

-- how many posts the requests after them make
abbrev pub posts_of : KnownPosts → ℕ → ℕ
posts_of known requests = min (3 * (requests - known.requests)) (2 ^ 64 - 1)

-- there are fewer posts than these requests make, and at the last look there weren't
abbrev pub IsFirstDoubt : KnownPosts → ℕ → ℕ → Type 0
IsFirstDoubt known next requests =
    (posts_since known next < posts_of known requests) × (known.is_in_doubt ≡ false)
