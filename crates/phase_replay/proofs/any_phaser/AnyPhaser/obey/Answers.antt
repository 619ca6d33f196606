-- Each operation's phaser obeys by itself.
use Rattle.std.proofs.Common.{refl}
use Rattle.phase_accum.specs.Sums.{sum_operation}
use Rattle.phase_accum.specs.Products.{product_operation}
use Rattle.phase_accum.specs.Leasts.{least_operation}
use Rattle.phase_accum.specs.Greatests.{greatest_operation}
use Rattle.phase_accum.specs.Anys.{any_operation}
use Rattle.phase_base.specs.declared.operation.Op.TheVariants.{Sum, Product, Least, Greatest, Any}
use Rattle.phase_script.specs.Commands.{whole_command}
use Rattle.phase_replay.proofs.Operations.{replies_under, stands_under, ok_under, under_sum, under_product, under_least, under_greatest, under_any}
use Rattle.phase_replay.proofs.any_phaser.AnyPhaser.obey.Goals as goal

pub returns-in-Sum-clause-reply : goal.returns-in-Sum-clause-reply
returns-in-Sum-clause-reply c =
    replies_under c.args.self.now sum_operation c.in-Sum.phaser Sum c.obey.result c.obey.new.outcomes (whole_command c.args.values.now c.args.command)
    (under_sum c.args.self.now c.in-Sum.phaser c.in-Sum.is) c.obey.ensures.reply

pub returns-in-Sum-clause-after : goal.returns-in-Sum-clause-after
returns-in-Sum-clause-after c =
    stands_under c.args.self.now _ sum_operation c.in-Sum.phaser c.obey.new.self Sum c.obey.result (whole_command c.args.values.now c.args.command)
    (under_sum c.args.self.now c.in-Sum.phaser c.in-Sum.is) (under_sum _ c.obey.new.self refl) c.obey.ensures.after

pub returns-in-Sum-clause-memory : goal.returns-in-Sum-clause-memory
returns-in-Sum-clause-memory c =
    ok_under c.args.self.now sum_operation c.in-Sum.phaser Sum c.obey.result (whole_command c.args.values.now c.args.command)
    (under_sum c.args.self.now c.in-Sum.phaser c.in-Sum.is) c.obey.ensures.memory

pub returns-in-Product-clause-reply : goal.returns-in-Product-clause-reply
returns-in-Product-clause-reply c =
    replies_under c.args.self.now product_operation c.in-Product.phaser Product c.obey-in-Product.result c.obey-in-Product.new.outcomes (whole_command c.args.values.now c.args.command)
    (under_product c.args.self.now c.in-Product.phaser c.in-Product.is) c.obey-in-Product.ensures.reply

pub returns-in-Product-clause-after : goal.returns-in-Product-clause-after
returns-in-Product-clause-after c =
    stands_under c.args.self.now _ product_operation c.in-Product.phaser c.obey-in-Product.new.self Product c.obey-in-Product.result (whole_command c.args.values.now c.args.command)
    (under_product c.args.self.now c.in-Product.phaser c.in-Product.is) (under_product _ c.obey-in-Product.new.self refl) c.obey-in-Product.ensures.after

pub returns-in-Product-clause-memory : goal.returns-in-Product-clause-memory
returns-in-Product-clause-memory c =
    ok_under c.args.self.now product_operation c.in-Product.phaser Product c.obey-in-Product.result (whole_command c.args.values.now c.args.command)
    (under_product c.args.self.now c.in-Product.phaser c.in-Product.is) c.obey-in-Product.ensures.memory

pub returns-in-Least-clause-reply : goal.returns-in-Least-clause-reply
returns-in-Least-clause-reply c =
    replies_under c.args.self.now least_operation c.in-Least.phaser Least c.obey-in-Least.result c.obey-in-Least.new.outcomes (whole_command c.args.values.now c.args.command)
    (under_least c.args.self.now c.in-Least.phaser c.in-Least.is) c.obey-in-Least.ensures.reply

pub returns-in-Least-clause-after : goal.returns-in-Least-clause-after
returns-in-Least-clause-after c =
    stands_under c.args.self.now _ least_operation c.in-Least.phaser c.obey-in-Least.new.self Least c.obey-in-Least.result (whole_command c.args.values.now c.args.command)
    (under_least c.args.self.now c.in-Least.phaser c.in-Least.is) (under_least _ c.obey-in-Least.new.self refl) c.obey-in-Least.ensures.after

pub returns-in-Least-clause-memory : goal.returns-in-Least-clause-memory
returns-in-Least-clause-memory c =
    ok_under c.args.self.now least_operation c.in-Least.phaser Least c.obey-in-Least.result (whole_command c.args.values.now c.args.command)
    (under_least c.args.self.now c.in-Least.phaser c.in-Least.is) c.obey-in-Least.ensures.memory

pub returns-in-Greatest-clause-reply : goal.returns-in-Greatest-clause-reply
returns-in-Greatest-clause-reply c =
    replies_under c.args.self.now greatest_operation c.in-Greatest.phaser Greatest c.obey-in-Greatest.result c.obey-in-Greatest.new.outcomes (whole_command c.args.values.now c.args.command)
    (under_greatest c.args.self.now c.in-Greatest.phaser c.in-Greatest.is) c.obey-in-Greatest.ensures.reply

pub returns-in-Greatest-clause-after : goal.returns-in-Greatest-clause-after
returns-in-Greatest-clause-after c =
    stands_under c.args.self.now _ greatest_operation c.in-Greatest.phaser c.obey-in-Greatest.new.self Greatest c.obey-in-Greatest.result (whole_command c.args.values.now c.args.command)
    (under_greatest c.args.self.now c.in-Greatest.phaser c.in-Greatest.is) (under_greatest _ c.obey-in-Greatest.new.self refl) c.obey-in-Greatest.ensures.after

pub returns-in-Greatest-clause-memory : goal.returns-in-Greatest-clause-memory
returns-in-Greatest-clause-memory c =
    ok_under c.args.self.now greatest_operation c.in-Greatest.phaser Greatest c.obey-in-Greatest.result (whole_command c.args.values.now c.args.command)
    (under_greatest c.args.self.now c.in-Greatest.phaser c.in-Greatest.is) c.obey-in-Greatest.ensures.memory

pub returns-in-Any-clause-reply : goal.returns-in-Any-clause-reply
returns-in-Any-clause-reply c =
    replies_under c.args.self.now any_operation c.in-Any.phaser Any c.obey-in-Any.result c.obey-in-Any.new.outcomes (whole_command c.args.values.now c.args.command)
    (under_any c.args.self.now c.in-Any.phaser c.in-Any.is) c.obey-in-Any.ensures.reply

pub returns-in-Any-clause-after : goal.returns-in-Any-clause-after
returns-in-Any-clause-after c =
    stands_under c.args.self.now _ any_operation c.in-Any.phaser c.obey-in-Any.new.self Any c.obey-in-Any.result (whole_command c.args.values.now c.args.command)
    (under_any c.args.self.now c.in-Any.phaser c.in-Any.is) (under_any _ c.obey-in-Any.new.self refl) c.obey-in-Any.ensures.after

pub returns-in-Any-clause-memory : goal.returns-in-Any-clause-memory
returns-in-Any-clause-memory c =
    ok_under c.args.self.now any_operation c.in-Any.phaser Any c.obey-in-Any.result (whole_command c.args.values.now c.args.command)
    (under_any c.args.self.now c.in-Any.phaser c.in-Any.is) c.obey-in-Any.ensures.memory
