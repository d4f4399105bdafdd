-- In which order two parts are worked out. Assumes nothing.
--   order_of m n         the one that needs more tables comes first
--   arranged o a b       two things in an order
use Rattle.std.specs.Prelude.{ℕ, cond, nat_lt}
use Rattle.making.specs.declared.order.Order.{Order}
use Rattle.making.specs.declared.order.Order.TheVariants.{Written, Turned}

abbrev pub order_of : ℕ → ℕ → Order
order_of m n = cond (nat_lt m n) Turned Written

abbrev pub arranged : {A : Type 0} → Order → A → A → A × A
arranged Written a b = (a, b)
arranged Turned a b = (b, a)
