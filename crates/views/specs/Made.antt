-- What `make_view` answers: the view beside why it wasn't made. Assumes nothing.
use Rattle.std.specs.Prelude.{List, ℕ, ltb, length}
use Rattle.bounds.specs.Bounds.{byte_limit}
use Rattle.bounds.specs.Refusals.{refuse, if_accepted, accepted, Why}
use Rattle.bounds.specs.declared.Refusal.TheVariants.{TooLong}
use Rattle.views.specs.declared.Made.{Made}
use Rattle.views.specs.View.{make_view, zero_view}

unfoldable pub view_why : List ℕ → Why
view_why x = refuse TooLong (ltb byte_limit (length x)) accepted

unfoldable pub make_of : List ℕ → ℕ → ℕ → Made
make_of x block offset = record { why = view_why x; view = if_accepted (view_why x) (make_view x block offset) zero_view }
