use Rattle.std.proofs.Common.{◌≡◌, ◌+◌, ◌*◌, ◌/◌, ◌%◌, ◌^◌, nat_lt, ◌∙◌, arith}
use Rattle.sim_queue.specs.declared.heap_item.TheConstants.{MAX_SLOTS}
use Rattle.sim_order.specs.Events.{event_before}
use Rattle.sim_queue.proofs.Wide.{wide_before}
use Rattle.sim_queue.proofs.heap_item.HeapItemEntry.before.Goals as goal

pub returns-clause-tells : goal.returns-clause-tells
returns-clause-tells g c =
    let own = c.self.inside in
    let others = c.other.inside in
    let time : c.from.result ≡ g.T.ItemTime.nanoseconds own.time = c.from.ensures ∙ c.get.ensures in
    let other_time : c.from-3.result ≡ g.T.ItemTime.nanoseconds others.time = c.from-3.ensures ∙ c.get-2.ensures in
    (λ i. nat_lt (time i * 2 ^ 64 % 2 ^ 128 + c.from-2.ensures i) (other_time i * 2 ^ 64 % 2 ^ 128 + c.from-4.ensures i))
    ∙ wide_before (g.T.ItemTime.nanoseconds own.time) (g.T.ItemTime.nanoseconds others.time) (own.tail / MAX_SLOTS) (others.tail / MAX_SLOTS) (omega (arith, c.get.ensures, c.get.type_inv)) (omega (arith, c.get-2.ensures, c.get-2.type_inv)) c.self.invariant c.other.invariant
    ∙ (λ i. event_before (c.self.view_is i).key (c.other.view_is i).key)
