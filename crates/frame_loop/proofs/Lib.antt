mod Rising
mod Leading
