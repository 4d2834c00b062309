use Rattle.std.proofs.Common.{Some, None, length, sym, ap, ◌∙◌, arith}
use Rattle.std.proofs.lemmas.List.{length-map}
use Rattle.sim_match.specs.PostsAndArrivals.{is_post_or_arrival_class}
use Rattle.sim_state.specs.declared.entry.OpState.{OpState}
use Rattle.sim_state.specs.declared.entry.Times.{Times}
use Rattle.sim_state.specs.Represents.{entry_known}
use Rattle.sim_state.proofs.Changed.{at_fits, times_changed, post_receive, post_fresh, post_changes, post_free, post_told, arrival_send, arrival_fresh, arrival_changes, arrival_free, arrival_told, data_message, data_over, data_gap, data_flight, data_known, data_free, serve_receive, paired, sender_is_op, taken_message, serve_over, serve_gap, serve_known, serve_free}
use Rattle.sim_state.proofs.Places.{possible_exists}
use Rattle.sim_state.proofs.PostsAndArrivals.{posts_and_arrivals_kept_by_other_action}
use Rattle.sim_state.proofs.state.perform.change_of.Goals as goal

pub read-requires : goal.read-requires
read-requires g c = record {
  exists = possible_exists _ _ _ c.args.action c.requires.next.possible;
  each = ap length c.requires.known ∙ length-map _ _;
}

pub begin-requires : goal.begin-requires
begin-requires g c = record {
  run = c.requires.run;
  within = c.requires.within;
  free = c.requires.free;
  next = c.requires.next;
  class = c.in-Begin.is;
  work = ap (λ (e : OpState). e.work) (c.read.ensures (entry_known c.args.sched.now (g.C.Costs.model c.args.costs.now) (g.H.History.actions c.args.history.now)) c.requires.known);
  times = ap (λ (e : OpState). e.times) (c.read.ensures (entry_known c.args.sched.now (g.C.Costs.model c.args.costs.now) (g.H.History.actions c.args.history.now)) c.requires.known);
}

pub with_start-requires : goal.with_start-requires
with_start-requires g c =
    at_fits c.args.sched.now (g.C.Costs.model c.args.costs.now) (g.H.History.actions c.args.history.now) c.args.action c.requires.run c.requires.within c.requires.next.possible

pub post_counted-requires : goal.post_counted-requires
post_counted-requires g c = record { receive = post_receive c.args.sched.now (g.C.Costs.model c.args.costs.now) (g.H.History.actions c.args.history.now) c.args.action c.requires.run c.requires.within c.requires.next.possible c.args.matcher.now c.requires.told c.in-Post.is; fresh = post_fresh c.args.sched.now (g.C.Costs.model c.args.costs.now) (g.H.History.actions c.args.history.now) c.args.action c.requires.run c.requires.within c.requires.next.possible c.args.matcher.now c.requires.told c.in-Post.is }

pub arrive_counted-requires : goal.arrive_counted-requires
arrive_counted-requires g c = record { send = arrival_send c.args.sched.now (g.C.Costs.model c.args.costs.now) (g.H.History.actions c.args.history.now) c.args.action c.requires.run c.requires.within c.requires.next.possible c.args.matcher.now c.requires.told c.in-Arrive.is; fresh = arrival_fresh c.args.sched.now (g.C.Costs.model c.args.costs.now) (g.H.History.actions c.args.history.now) c.args.action c.requires.run c.requires.within c.requires.next.possible c.args.matcher.now c.requires.told c.in-Arrive.is }

pub data_message-sent-requires : goal.data_message-sent-requires
data_message-sent-requires g c = record {
  same_schedule = c.requires.free.same_plans;
  message = data_message c.args.sched.now (g.C.Costs.model c.args.costs.now) (g.H.History.actions c.args.history.now) c.args.action c.requires.run c.requires.within c.requires.next.possible c.in-Data.is c.read.result.now.work (ap (λ (e : OpState). e.work) (c.read.ensures (entry_known c.args.sched.now (g.C.Costs.model c.args.costs.now) (g.H.History.actions c.args.history.now)) c.requires.known));
  over_fits = data_over c.args.sched.now (g.C.Costs.model c.args.costs.now) (g.H.History.actions c.args.history.now) c.args.action c.requires.run c.requires.within c.requires.next.possible c.in-Data.is c.read.result.now.work (ap (λ (e : OpState). e.work) (c.read.ensures (entry_known c.args.sched.now (g.C.Costs.model c.args.costs.now) (g.H.History.actions c.args.history.now)) c.requires.known));
  gap_fits = data_gap c.args.sched.now (g.C.Costs.model c.args.costs.now) (g.H.History.actions c.args.history.now) c.args.action c.requires.run c.requires.within c.requires.next.possible c.in-Data.is c.read.result.now.work (ap (λ (e : OpState). e.work) (c.read.ensures (entry_known c.args.sched.now (g.C.Costs.model c.args.costs.now) (g.H.History.actions c.args.history.now)) c.requires.known));
  flight_fits = data_flight c.args.sched.now (g.C.Costs.model c.args.costs.now) (g.H.History.actions c.args.history.now) c.args.action c.requires.run c.requires.within c.requires.next.possible c.in-Data.is c.read.result.now.work (ap (λ (e : OpState). e.work) (c.read.ensures (entry_known c.args.sched.now (g.C.Costs.model c.args.costs.now) (g.H.History.actions c.args.history.now)) c.requires.known));
}

pub with_end-requires : goal.with_end-requires
with_end-requires g c =
    omega (arith, c.data_message-sent.ensures.end, data_over c.args.sched.now (g.C.Costs.model c.args.costs.now) (g.H.History.actions c.args.history.now) c.args.action c.requires.run c.requires.within c.requires.next.possible c.in-Data.is c.read.result.now.work (ap (λ (e : OpState). e.work) (c.read.ensures (entry_known c.args.sched.now (g.C.Costs.model c.args.costs.now) (g.H.History.actions c.args.history.now)) c.requires.known)))

pub with_awaited-requires : goal.with_awaited-requires
with_awaited-requires g c =
    omega (arith, c.data_message-sent.ensures.available, data_flight c.args.sched.now (g.C.Costs.model c.args.costs.now) (g.H.History.actions c.args.history.now) c.args.action c.requires.run c.requires.within c.requires.next.possible c.in-Data.is c.read.result.now.work (ap (λ (e : OpState). e.work) (c.read.ensures (entry_known c.args.sched.now (g.C.Costs.model c.args.costs.now) (g.H.History.actions c.args.history.now)) c.requires.known)))

pub unreachable-requires : goal.unreachable-requires
unreachable-requires g c =
    paired c.args.sched.now (g.C.Costs.model c.args.costs.now) (g.H.History.actions c.args.history.now) c.args.action c.requires.run c.requires.within c.requires.next.possible c.in-Serve.is _ (c.partner.ensures ∙ ap (λ (e : OpState). e.link.partner) (c.read.ensures (entry_known c.args.sched.now (g.C.Costs.model c.args.costs.now) (g.H.History.actions c.args.history.now)) c.requires.known)) c.in_default.not-Some

pub read-requires-in-Serve : goal.read-requires-in-Serve
read-requires-in-Serve g c = record {
  exists = sender_is_op c.args.sched.now (g.C.Costs.model c.args.costs.now) (g.H.History.actions c.args.history.now) c.args.action c.requires.run c.requires.within c.requires.next.possible c.in-Serve.is c.in-Some.send (sym c.in-Some.is ∙ c.partner.ensures ∙ ap (λ (e : OpState). e.link.partner) (c.read.ensures (entry_known c.args.sched.now (g.C.Costs.model c.args.costs.now) (g.H.History.actions c.args.history.now)) c.requires.known));
  each = ap length c.requires.known ∙ length-map _ _;
}

pub serve_message-end-requires : goal.serve_message-end-requires
serve_message-end-requires g c = record {
  same_schedule = c.requires.free.same_plans;
  receives = serve_receive c.args.sched.now (g.C.Costs.model c.args.costs.now) (g.H.History.actions c.args.history.now) c.args.action c.requires.run c.requires.within c.requires.next.possible c.in-Serve.is;
  message = taken_message c.args.sched.now (g.C.Costs.model c.args.costs.now) (g.H.History.actions c.args.history.now) c.args.action c.requires.run c.requires.within c.requires.next.possible c.in-Serve.is c.in-Some.send (sym c.in-Some.is ∙ c.partner.ensures ∙ ap (λ (e : OpState). e.link.partner) (c.read.ensures (entry_known c.args.sched.now (g.C.Costs.model c.args.costs.now) (g.H.History.actions c.args.history.now)) c.requires.known)) c.read-in-Serve.result.now.work (ap (λ (e : OpState). e.work) (c.read-in-Serve.ensures (entry_known c.args.sched.now (g.C.Costs.model c.args.costs.now) (g.H.History.actions c.args.history.now)) c.requires.known));
  over_fits = serve_over c.args.sched.now (g.C.Costs.model c.args.costs.now) (g.H.History.actions c.args.history.now) c.args.action c.requires.run c.requires.within c.requires.next.possible c.in-Serve.is c.in-Some.send (sym c.in-Some.is ∙ c.partner.ensures ∙ ap (λ (e : OpState). e.link.partner) (c.read.ensures (entry_known c.args.sched.now (g.C.Costs.model c.args.costs.now) (g.H.History.actions c.args.history.now)) c.requires.known));
  gap_fits = serve_gap c.args.sched.now (g.C.Costs.model c.args.costs.now) (g.H.History.actions c.args.history.now) c.args.action c.requires.run c.requires.within c.requires.next.possible c.in-Serve.is c.in-Some.send (sym c.in-Some.is ∙ c.partner.ensures ∙ ap (λ (e : OpState). e.link.partner) (c.read.ensures (entry_known c.args.sched.now (g.C.Costs.model c.args.costs.now) (g.H.History.actions c.args.history.now)) c.requires.known));
}

pub with_end-requires-in-Serve : goal.with_end-requires-in-Serve
with_end-requires-in-Serve g c =
    omega (arith, c.serve_message-end.ensures.end, serve_over c.args.sched.now (g.C.Costs.model c.args.costs.now) (g.H.History.actions c.args.history.now) c.args.action c.requires.run c.requires.within c.requires.next.possible c.in-Serve.is c.in-Some.send (sym c.in-Some.is ∙ c.partner.ensures ∙ ap (λ (e : OpState). e.link.partner) (c.read.ensures (entry_known c.args.sched.now (g.C.Costs.model c.args.costs.now) (g.H.History.actions c.args.history.now)) c.requires.known)))

pub returns-in-Begin-clause-change : goal.returns-in-Begin-clause-change
returns-in-Begin-clause-change g c =
    times_changed c.args.sched.now (g.C.Costs.model c.args.costs.now) (g.H.History.actions c.args.history.now) c.args.action c.requires.run c.requires.within c.requires.next.possible _ _ c.of_times.ensures c.begin.ensures.known

pub returns-in-Begin-clause-free : goal.returns-in-Begin-clause-free
returns-in-Begin-clause-free g c =
    c.begin.ensures.free

pub returns-in-Begin-clause-told : goal.returns-in-Begin-clause-told
returns-in-Begin-clause-told g c =
    posts_and_arrivals_kept_by_other_action _ _ _ c.args.action c.args.matcher.now c.requires.told (ap is_post_or_arrival_class c.in-Begin.is)

pub returns-in-Post-clause-change : goal.returns-in-Post-clause-change
returns-in-Post-clause-change g c =
    post_changes c.args.sched.now (g.C.Costs.model c.args.costs.now) (g.H.History.actions c.args.history.now) c.args.action c.requires.run c.requires.within c.requires.next.possible c.args.matcher.now c.requires.told c.in-Post.is _ _ (c.with_nothing_awaited.ensures ∙ ap (λ (t : Times). record t { awaited = None }) (c.with_start.ensures ∙ ap (λ (t : Times). record t { start = Some c.args.action.time }) (ap (λ (e : OpState). e.times) (c.read.ensures (entry_known c.args.sched.now (g.C.Costs.model c.args.costs.now) (g.H.History.actions c.args.history.now)) c.requires.known)))) c.post_counted.ensures.taken

pub returns-in-Post-clause-free : goal.returns-in-Post-clause-free
returns-in-Post-clause-free g c =
    post_free c.args.sched.now (g.C.Costs.model c.args.costs.now) (g.H.History.actions c.args.history.now) c.args.action c.requires.run c.requires.within c.requires.next.possible c.args.matcher.now c.requires.told c.in-Post.is _ c.requires.free

pub returns-in-Post-clause-told : goal.returns-in-Post-clause-told
returns-in-Post-clause-told g c =
    post_told c.args.sched.now (g.C.Costs.model c.args.costs.now) (g.H.History.actions c.args.history.now) c.args.action c.requires.run c.requires.within c.requires.next.possible c.args.matcher.now c.requires.told c.in-Post.is _ c.post_counted.ensures.actions

pub returns-in-Arrive-clause-change : goal.returns-in-Arrive-clause-change
returns-in-Arrive-clause-change g c =
    arrival_changes c.args.sched.now (g.C.Costs.model c.args.costs.now) (g.H.History.actions c.args.history.now) c.args.action c.requires.run c.requires.within c.requires.next.possible c.args.matcher.now c.requires.told c.in-Arrive.is _ _ (c.with_nothing_awaited-in-Arrive.ensures ∙ ap (λ (t : Times). record t { awaited = None }) (ap (λ (e : OpState). e.times) (c.read.ensures (entry_known c.args.sched.now (g.C.Costs.model c.args.costs.now) (g.H.History.actions c.args.history.now)) c.requires.known))) c.arrive_counted.ensures.taken

pub returns-in-Arrive-clause-free : goal.returns-in-Arrive-clause-free
returns-in-Arrive-clause-free g c =
    arrival_free c.args.sched.now (g.C.Costs.model c.args.costs.now) (g.H.History.actions c.args.history.now) c.args.action c.requires.run c.requires.within c.requires.next.possible c.args.matcher.now c.requires.told c.in-Arrive.is _ c.requires.free

pub returns-in-Arrive-clause-told : goal.returns-in-Arrive-clause-told
returns-in-Arrive-clause-told g c =
    arrival_told c.args.sched.now (g.C.Costs.model c.args.costs.now) (g.H.History.actions c.args.history.now) c.args.action c.requires.run c.requires.within c.requires.next.possible c.args.matcher.now c.requires.told c.in-Arrive.is _ c.arrive_counted.ensures.actions

pub returns-in-Data-clause-change : goal.returns-in-Data-clause-change
returns-in-Data-clause-change g c =
    times_changed c.args.sched.now (g.C.Costs.model c.args.costs.now) (g.H.History.actions c.args.history.now) c.args.action c.requires.run c.requires.within c.requires.next.possible _ _ c.of_times-in-Data.ensures (data_known c.args.sched.now (g.C.Costs.model c.args.costs.now) (g.H.History.actions c.args.history.now) c.args.action c.requires.run c.requires.within c.requires.next.possible c.in-Data.is c.read.result.now.work (ap (λ (e : OpState). e.work) (c.read.ensures (entry_known c.args.sched.now (g.C.Costs.model c.args.costs.now) (g.H.History.actions c.args.history.now)) c.requires.known)) _ _ c.data_message-sent.ensures.end c.data_message-sent.ensures.available _ (c.with_awaited.ensures ∙ ap (λ (t : Times). record t { awaited = Some c.data_message-sent.result.available }) (c.with_end.ensures ∙ ap (λ (t : Times). record t { end = Some c.data_message-sent.result.end }) (ap (λ (e : OpState). e.times) (c.read.ensures (entry_known c.args.sched.now (g.C.Costs.model c.args.costs.now) (g.H.History.actions c.args.history.now)) c.requires.known)))))

pub returns-in-Data-clause-free : goal.returns-in-Data-clause-free
returns-in-Data-clause-free g c =
    data_free c.args.sched.now (g.C.Costs.model c.args.costs.now) (g.H.History.actions c.args.history.now) c.args.action c.requires.run c.requires.within c.requires.next.possible c.in-Data.is c.read.result.now.work (ap (λ (e : OpState). e.work) (c.read.ensures (entry_known c.args.sched.now (g.C.Costs.model c.args.costs.now) (g.H.History.actions c.args.history.now)) c.requires.known)) _ _ _ c.data_message-sent.ensures.end c.requires.free c.data_message-sent.ensures.holds

pub returns-in-Data-clause-told : goal.returns-in-Data-clause-told
returns-in-Data-clause-told g c =
    posts_and_arrivals_kept_by_other_action _ _ _ c.args.action c.args.matcher.now c.requires.told (ap is_post_or_arrival_class c.in-Data.is)

pub returns-in-Some-clause-change : goal.returns-in-Some-clause-change
returns-in-Some-clause-change g c =
    times_changed c.args.sched.now (g.C.Costs.model c.args.costs.now) (g.H.History.actions c.args.history.now) c.args.action c.requires.run c.requires.within c.requires.next.possible _ _ c.of_times-in-Serve.ensures (serve_known c.args.sched.now (g.C.Costs.model c.args.costs.now) (g.H.History.actions c.args.history.now) c.args.action c.requires.run c.requires.within c.requires.next.possible c.in-Serve.is c.in-Some.send (sym c.in-Some.is ∙ c.partner.ensures ∙ ap (λ (e : OpState). e.link.partner) (c.read.ensures (entry_known c.args.sched.now (g.C.Costs.model c.args.costs.now) (g.H.History.actions c.args.history.now)) c.requires.known)) _ c.serve_message-end.ensures.end _ (c.with_end-in-Serve.ensures ∙ ap (λ (t : Times). record t { end = Some c.serve_message-end.result }) (ap (λ (e : OpState). e.times) (c.read.ensures (entry_known c.args.sched.now (g.C.Costs.model c.args.costs.now) (g.H.History.actions c.args.history.now)) c.requires.known))))

pub returns-in-Some-clause-free : goal.returns-in-Some-clause-free
returns-in-Some-clause-free g c =
    serve_free c.args.sched.now (g.C.Costs.model c.args.costs.now) (g.H.History.actions c.args.history.now) c.args.action c.requires.run c.requires.within c.requires.next.possible c.in-Serve.is c.in-Some.send (sym c.in-Some.is ∙ c.partner.ensures ∙ ap (λ (e : OpState). e.link.partner) (c.read.ensures (entry_known c.args.sched.now (g.C.Costs.model c.args.costs.now) (g.H.History.actions c.args.history.now)) c.requires.known)) _ _ _ c.serve_message-end.ensures.end c.requires.free c.serve_message-end.ensures.holds

pub returns-in-Some-clause-told : goal.returns-in-Some-clause-told
returns-in-Some-clause-told g c =
    posts_and_arrivals_kept_by_other_action _ _ _ c.args.action c.args.matcher.now c.requires.told (ap is_post_or_arrival_class c.in-Serve.is)
