-- By what the node counts. Assumes nothing.
use Rattle.words_clash.proofs.Loops as nodes
use Rattle.words_clash.proofs.own_clash.Goals as goal

pub returns-in-Function : goal.returns-in-Function
returns-in-Function c = nodes.own-function c.requires.0 c.requires.1 (c.of.ensures _ c.kind_at.ensures.1) c.in-Function.is c.function_clash.ensures

pub returns-in-Statements : goal.returns-in-Statements
returns-in-Statements c = nodes.own-statements c.requires.0 c.requires.1 (c.of.ensures _ c.kind_at.ensures.1) c.in-Statements.is c.block_clash.ensures

pub returns-in-Catch : goal.returns-in-Catch
returns-in-Catch c = nodes.own-catch c.requires.0 c.requires.1 (c.of.ensures _ c.kind_at.ensures.1) c.in-Catch.is c.catch_clash.ensures

pub returns-in-Script : goal.returns-in-Script
returns-in-Script c = nodes.own-script c.requires.0 c.requires.1 (c.of.ensures _ c.kind_at.ensures.1) c.in-Script.is c.script_clash.ensures

pub returns-in-Nothing : goal.returns-in-Nothing
returns-in-Nothing c = nodes.own-nothing c.requires.0 c.requires.1 (c.of.ensures _ c.kind_at.ensures.1) c.in-Nothing.is
