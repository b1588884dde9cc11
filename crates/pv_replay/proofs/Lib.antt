mod ImageLaws
mod ReplayLaws
