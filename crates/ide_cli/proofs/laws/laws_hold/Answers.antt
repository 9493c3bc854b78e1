use Rattle.spec_links.specs.Plan.{key_plan}
use Rattle.ide_cli.proofs.laws.laws_hold.Goals as goal

pub returns : goal.returns
returns c plan h is =
    let fits = is.fits in
    let cause = is.cause in
    let keys = c.keys_have_causes.ensures plan h cause in
    let interfaces = c.interfaces_have_causes.ensures plan h cause in
    let totals = c.totals_fit.ensures plan h cause is.few in
    record {
      sealing = record {
        numbers_fresh = c.numbers_fresh.ensures plan fits h cause;
        keystream_fresh = c.keystream_fresh.ensures plan fits h cause;
        choice_law = c.choice_law.ensures plan fits h cause;
        cover_law = c.cover_law.ensures plan;
        exact_trust_law = c.exact_trust_law.ensures plan fits h cause;
        send_law = c.send_law.ensures plan fits h cause;
        sealed_comes_from = c.sealed_comes_from.ensures plan fits h cause;
      };
      keys = record {
        operations_settle = c.operations_settle.ensures (key_plan plan) h keys;
        stream_stays_secure = c.stream_stays_secure.ensures (key_plan plan) h keys;
        keys_follow_operations = c.keys_follow_operations.ensures (key_plan plan) h keys;
        set_go_finds_key = c.set_go_finds_key.ensures (key_plan plan) h keys;
        ended_keys_stay_out = c.ended_keys_stay_out.ensures (key_plan plan) h keys;
        keys_in_use = c.keys_in_use.ensures plan h cause;
        stop_takes_keys = c.stop_takes_keys.ensures plan h cause;
        refresh_takes = c.refresh_takes.ensures plan h cause;
        key_limits = c.key_limits.ensures plan fits h cause;
        forgeries_are_of_cipher = c.forgeries_are_of_cipher.ensures plan fits h cause;
      };
      delivery = record {
        draws_never_fall = c.draws_never_fall.ensures plan h cause;
        whole_law = c.whole_law.ensures plan fits h cause;
        whole_law_by_order = c.whole_law_by_order.ensures plan fits h cause;
        honest_law = c.honest_law.ensures plan fits h cause;
        honest_delivery = c.honest_delivery.ensures plan fits h cause;
        fresh_law = c.fresh_law.ensures plan h cause;
        pass_law = c.pass_law.ensures plan fits h cause;
        order_is_no_forgery = c.order_is_no_forgery.ensures plan fits h cause;
        count_law = c.count_law.ensures plan fits h cause;
        prefix_law = c.prefix_law.ensures plan fits h cause totals;
        delivery_law = c.delivery_law.ensures plan fits h cause;
        order_law = c.order_law.ensures plan fits h cause totals;
        streams_stand_alone = c.streams_stand_alone.ensures plan fits h cause totals;
      };
      interfaces = record {
        run_law = c.run_law.ensures plan h cause;
        reports_are_shown = c.reports_are_shown.ensures plan h cause;
        lock_law = c.lock_law.ensures plan h cause;
        unlocked_is_scrubbed = c.unlocked_is_scrubbed.ensures plan h cause;
        state_law = c.state_law.ensures plan h cause;
        shown_state_law = c.shown_state_law.ensures plan h cause;
        leaving_law = c.leaving_law.ensures plan h cause;
        nonce_law = c.nonce_law.ensures plan h cause;
        error_law = c.error_law.ensures plan h cause;
      };
      views = record {
        trusted_packets_fit_view = c.views_hold.ensures plan (key_plan plan) h keys interfaces;
        views_are_true = c.views_are_true.ensures plan h cause;
        view_law = c.view_law.ensures plan h fits.peers_most cause;
        trusted_on_all_streams = c.trusted_on_all_streams.ensures plan fits h cause;
      };
      trusted_memory = record {
        memory_law = c.memory_law.ensures plan h cause;
        effect_law = c.effect_law.ensures plan h cause;
        read_law = c.read_law.ensures plan h cause;
        answer_law = c.answer_law.ensures plan h cause;
        answers_law = c.answers_law.ensures plan h cause;
        one_lock_per_key = c.one_lock_per_key.ensures plan h cause;
        origin_law = c.origin_law.ensures plan fits h cause;
        read_origin_law = c.read_origin_law.ensures plan fits h cause;
        byte_origin = c.byte_origin.ensures plan fits h cause;
      };
      device_memory = record {
        mmio_law = c.mmio_law.ensures plan h cause;
        one_lock_per_stored_key = c.one_lock_per_stored_key.ensures plan fits h cause;
        mmio_origin_law = c.mmio_origin_law.ensures plan fits h cause;
      };
      device_reads = record {
        device_read_law = c.device_read_law.ensures plan fits h cause;
        device_effect_law = c.device_effect_law.ensures plan fits h cause;
        respond_law = c.respond_law.ensures plan fits h cause;
        exposure_law = c.exposure_law.ensures plan fits h cause;
        device_read_origin_law = c.device_read_origin_law.ensures plan fits h cause;
        response_origin_law = c.response_origin_law.ensures plan fits h cause;
      };
      device_streams = record {
        bind_law = c.bind_law.ensures.law plan h;
        bindings_are_asked = c.bindings_are_asked.ensures plan fits h cause;
        bindings_last = c.bindings_last.ensures plan h cause;
        verdicts_tell_bindings = c.verdicts_tell_bindings.ensures plan h cause;
        stops_break_views = c.stops_break_views.ensures plan fits h cause;
        bindings_hold_keys = c.bindings_hold_keys.ensures plan h cause;
        peers_are_never_stale = c.peers_are_never_stale.ensures plan fits h cause;
        one_lock_per_peer_key = c.one_lock_per_peer_key.ensures plan fits h cause;
        peer_origin_law = c.peer_origin_law.ensures plan fits h cause;
        peer_store_law = c.peer_store_law.ensures plan fits h cause;
      };
      hops = record {
        hop_law = c.hop_law.ensures plan fits h cause;
        exact_through_law = c.exact_through_law.ensures plan fits h cause;
        hop_trust_law = c.hop_trust_law.ensures plan fits h cause;
        hop_order_law = c.hop_order_law.ensures plan fits h cause;
        hop_posted_law = c.hop_posted_law.ensures plan fits h cause totals;
      };
      stillness = record {
        inert_law = c.inert_law.ensures plan h;
        reset_law = c.reset_law.ensures plan fits h cause;
        streams_apart = c.streams_apart.ensures plan h cause;
      };
      outcomes = record {
        named_law = c.named_law.ensures plan h cause;
        failed_law = c.failed_law.ensures plan h cause;
        fail_law = c.fail_law.ensures plan h cause;
        block_law = c.block_law.ensures plan h cause;
        shown_law = c.shown_law.ensures plan h cause;
        operation_law = c.operation_law.ensures plan fits h cause;
        recovery_law = c.recovery_law.ensures plan fits h cause;
      };
    }
