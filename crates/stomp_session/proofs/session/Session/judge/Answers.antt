use Rattle.std.proofs.Common.{Result, Ok, Err, refl, sym, ap, subst, ◌∙◌}
use Rattle.std.specs.Prelude.{OnOk, OnErr}
use Rattle.stomp_frame.specs.declared.command.Command.{Command}
use Rattle.stomp_frame.specs.declared.command.Command.TheVariants as commands
use Rattle.stomp_session.specs.Frames.{has_destination}
use Rattle.stomp_session.specs.Inner.Effects.{Handles, held_with}
use Rattle.stomp_session.proofs.Later.{with_destination-some}
use Rattle.stomp_session.proofs.Taken.{handles-connect, connect-unnamed, unnamed}
use Rattle.stomp_session.proofs.session.Session.judge.Goals as goal

on_ok : {A B P Q : Type 0} (r : Result A B) → (P → Q) → OnOk r P → OnOk r Q
on_ok (Ok x) from p = from p
on_ok (Err e) from p = tt

always_ok : {A B P : Type 0} (r : Result A B) → P → OnOk r P
always_ok (Ok x) p = p
always_ok (Err e) p = tt

always_err : {A B P : Type 0} (r : Result A B) → P → OnErr r P
always_err (Ok x) p = tt
always_err (Err e) p = p

pub returns-in-Connect-clause-handles : goal.returns-in-Connect-clause-handles
returns-in-Connect-clause-handles c =
    let f = c.in-Connect.frame.raw in
    rw c.in-Connect.is (handles-connect (held_with c.args.names.now c.args.self.now) f c.connect.result c.connect.new.self c.in-Connect.frame.complete.command (c.connect.ensures c.args.names.now))

pub returns-in-Connect-clause-named : goal.returns-in-Connect-clause-named
returns-in-Connect-clause-named c =
    let f = c.in-Connect.frame.raw in
    rw c.in-Connect.is (always_ok c.connect.result (connect-unnamed c.args.names.now f c.in-Connect.frame.complete.command))

pub returns-in-Connect-clause-unnamed : goal.returns-in-Connect-clause-unnamed
returns-in-Connect-clause-unnamed c = always_err c.connect.result refl

pub returns-in-Subscribe-clause-handles : goal.returns-in-Subscribe-clause-handles
returns-in-Subscribe-clause-handles c =
    let f = c.in-Subscribe.frame.raw in
    rw c.in-Subscribe.is (subst (λ (command : Command). Handles command (held_with c.args.names.now c.args.self.now) f c.subscribe.result c.subscribe.new.self) (sym c.in-Subscribe.frame.complete.command) c.subscribe.ensures.handles)

pub returns-in-Subscribe-clause-named : goal.returns-in-Subscribe-clause-named
returns-in-Subscribe-clause-named c =
    let names = c.args.names.now in
    let f = c.in-Subscribe.frame.raw in
    rw c.in-Subscribe.is (on_ok c.subscribe.result (λ named. named ∙ sym (with_destination-some f names (ap has_destination c.in-Subscribe.frame.complete.command))) c.subscribe.ensures.named)

pub returns-in-Unsubscribe-clause-handles : goal.returns-in-Unsubscribe-clause-handles
returns-in-Unsubscribe-clause-handles c =
    let f = c.in-Unsubscribe.frame.raw in
    rw c.in-Unsubscribe.is (subst (λ (command : Command). Handles command (held_with c.args.names.now c.args.self.now) f c.unsubscribe.result c.unsubscribe.new.self) (sym c.in-Unsubscribe.frame.complete.command) (c.unsubscribe.ensures c.args.names.now))

pub returns-in-Unsubscribe-clause-named : goal.returns-in-Unsubscribe-clause-named
returns-in-Unsubscribe-clause-named c =
    let f = c.in-Unsubscribe.frame.raw in
    rw c.in-Unsubscribe.is (always_ok c.unsubscribe.result (unnamed commands.Unsubscribe c.args.names.now f c.in-Unsubscribe.frame.complete.command refl))

pub returns-in-Unsubscribe-clause-unnamed : goal.returns-in-Unsubscribe-clause-unnamed
returns-in-Unsubscribe-clause-unnamed c = always_err c.unsubscribe.result refl

pub returns-in-Begin-clause-handles : goal.returns-in-Begin-clause-handles
returns-in-Begin-clause-handles c =
    let f = c.in-Begin.frame.raw in
    rw c.in-Begin.is (subst (λ (command : Command). Handles command (held_with c.args.names.now c.args.self.now) f c.begin.result c.begin.new.self) (sym c.in-Begin.frame.complete.command) (c.begin.ensures c.args.names.now))

pub returns-in-Begin-clause-named : goal.returns-in-Begin-clause-named
returns-in-Begin-clause-named c =
    let f = c.in-Begin.frame.raw in
    rw c.in-Begin.is (always_ok c.begin.result (unnamed commands.Begin c.args.names.now f c.in-Begin.frame.complete.command refl))

pub returns-in-Begin-clause-unnamed : goal.returns-in-Begin-clause-unnamed
returns-in-Begin-clause-unnamed c = always_err c.begin.result refl

pub returns-in-Commit-clause-handles : goal.returns-in-Commit-clause-handles
returns-in-Commit-clause-handles c =
    let f = c.in-Commit.frame.raw in
    rw c.in-Commit.is (subst (λ (command : Command). Handles command (held_with c.args.names.now c.args.self.now) f c.commit.result c.commit.new.self) (sym c.in-Commit.frame.complete.command) (c.commit.ensures c.args.names.now))

pub returns-in-Commit-clause-named : goal.returns-in-Commit-clause-named
returns-in-Commit-clause-named c =
    let f = c.in-Commit.frame.raw in
    rw c.in-Commit.is (always_ok c.commit.result (unnamed commands.Commit c.args.names.now f c.in-Commit.frame.complete.command refl))

pub returns-in-Commit-clause-unnamed : goal.returns-in-Commit-clause-unnamed
returns-in-Commit-clause-unnamed c = always_err c.commit.result refl

pub returns-in-Abort-clause-handles : goal.returns-in-Abort-clause-handles
returns-in-Abort-clause-handles c =
    let f = c.in-Abort.frame.raw in
    rw c.in-Abort.is (subst (λ (command : Command). Handles command (held_with c.args.names.now c.args.self.now) f c.abort.result c.abort.new.self) (sym c.in-Abort.frame.complete.command) (c.abort.ensures c.args.names.now))

pub returns-in-Abort-clause-named : goal.returns-in-Abort-clause-named
returns-in-Abort-clause-named c =
    let f = c.in-Abort.frame.raw in
    rw c.in-Abort.is (always_ok c.abort.result (unnamed commands.Abort c.args.names.now f c.in-Abort.frame.complete.command refl))

pub returns-in-Abort-clause-unnamed : goal.returns-in-Abort-clause-unnamed
returns-in-Abort-clause-unnamed c = always_err c.abort.result refl

pub returns-in-Disconnect-clause-handles : goal.returns-in-Disconnect-clause-handles
returns-in-Disconnect-clause-handles c =
    let f = c.in-Disconnect.frame.raw in
    rw c.in-Disconnect.is (subst (λ (command : Command). Handles command (held_with c.args.names.now c.args.self.now) f c.disconnect.result c.disconnect.new.self) (sym c.in-Disconnect.frame.complete.command) (c.disconnect.ensures c.args.names.now))

pub returns-in-Disconnect-clause-named : goal.returns-in-Disconnect-clause-named
returns-in-Disconnect-clause-named c =
    let f = c.in-Disconnect.frame.raw in
    rw c.in-Disconnect.is (always_ok c.disconnect.result (unnamed commands.Disconnect c.args.names.now f c.in-Disconnect.frame.complete.command refl))

pub returns-in-Disconnect-clause-unnamed : goal.returns-in-Disconnect-clause-unnamed
returns-in-Disconnect-clause-unnamed c = always_err c.disconnect.result refl
